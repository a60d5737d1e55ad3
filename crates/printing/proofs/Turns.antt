-- What the loop of `print` comes to from a turn on: a turn leaves it as it was, where there is no room or no answer it is what stands there,
-- and at the start it is what the contract says. Assumes nothing.
use Rattle.laws.proofs.Library.{◌≡◌, sym, ap, ◌∙◌, List, [], ◌∷◌, ◌++◌, ℕ, suc, ◌+◌, ◌-◌, ◌≤◌, ◌<◌, add-zero, zero-add, sub-zero, add-one, arith, length, get_or}
use Rattle.laws.proofs.Library.{drop, drop-cons, drop_of_length-le, length-append, sets}
use Rattle.rules.specs.Traces.{Text}
use Rattle.lines.specs.declared.Command.{Command}
use Rattle.printing.specs.declared.Printed.{Printed}
use Rattle.printing.specs.declared.answers.Page.{Page}
use Rattle.printing.specs.Answers.{longest, answer_text, answers_text, fitting, text_in, printed, printed_in}
use Rattle.printing.specs.Inner.{Writes}
use Rattle.printing.proofs.Stores.{sets_append, sets_front}
use Rattle.printing.proofs.Fits.{fitted, fitting_more, fitted_more, fitting_none, fitted_none, text_room}

-- with k answers and `at` bytes in the buffer, and n answers with the text t to come
abbrev wrote : ℕ → Text → List ℕ → ℕ → ℕ → Printed × List ℕ
wrote n t out at k = (record { count = k + n; len = at + length t }, sets out at t)

-- with the answers cs to come, as many as have room
unfoldable pub writes : List Command → List ℕ → ℕ → ℕ → Printed × List ℕ
writes cs out at k = wrote (fitting (length out - at) cs) (fitted (length out - at) cs) out at k

wrote_then : (n : ℕ) (s t : Text) (p q : Page) (k : ℕ) → Writes p s q → wrote (suc n) (s ++ t) p.out.now p.len k ≡ wrote n t q.out.now q.len (k + 1)
wrote_then n s t p q k w =
    let more : k + suc n ≡ k + 1 + n = omega arith in
    let behind : p.len + (length s + length t) ≡ p.len + length s + length t = omega arith in
    rw (more, w.len, w.bytes, length-append, sets_append, behind)

-- an answer that has room
writes_more : (c : Command) (cs : List Command) (p q : Page) (k : ℕ) → longest ≤ length p.out.now - p.len → Writes p (answer_text c) q
    → writes (c ∷ cs) p.out.now p.len k ≡ writes cs q.out.now q.len (k + 1)
unfolding writes
writes_more c cs p q k h w =
    let room = length p.out.now - p.len in
    let left : room - length (answer_text c) ≡ length q.out.now - q.len = omega arith in
    rw (fitting_more room c cs h, fitted_more room c cs h, left)
    (wrote_then (fitting (length q.out.now - q.len) cs) (answer_text c) (fitted (length q.out.now - q.len) cs) p q k w)

-- the same at the command in place i
pub writes_next : (commands : List Command) (d : Command) (p q : Page) (i k : ℕ) → i < length commands → longest ≤ length p.out.now - p.len
    → Writes p (answer_text (get_or commands i d)) q → writes (drop (i + 1) commands) q.out.now q.len (k + 1) ≡ writes (drop i commands) p.out.now p.len k
writes_next commands d p q i k h room w =
    rw (drop-cons commands i d h, add-one i) (sym (writes_more (get_or commands i d) (drop (suc i) commands) p q k room w))

-- k answers, and no more
abbrev pub so_far : Page → ℕ → Printed × List ℕ
so_far p k = (record { count = k; len = p.len }, p.out.now)

wrote_nothing : (p : Page) (k : ℕ) → wrote 0 [] p.out.now p.len k ≡ so_far p k
wrote_nothing p k = simp add-zero

-- no room
pub writes_full : (cs : List Command) (p : Page) (k : ℕ) → length p.out.now - p.len < longest → writes cs p.out.now p.len k ≡ so_far p k
unfolding writes
writes_full cs p k h = let room = length p.out.now - p.len in rw (fitting_none room cs h, fitted_none room cs h) (wrote_nothing p k)

-- no answer
pub writes_none : (commands : List Command) (p : Page) (i k : ℕ) → length commands ≤ i → writes (drop i commands) p.out.now p.len k ≡ so_far p k
unfolding writes fitted fitting answers_text
writes_none commands p i k h = rw (drop_of_length-le commands h) (wrote_nothing p k)

-- at the start
pub writes_all : (commands : List Command) (out : List ℕ) → writes commands out 0 0 ≡ (printed commands out, printed_in commands out)
unfolding writes fitted printed printed_in
writes_all commands out = simp (sub-zero, zero-add, sets_front (text_in commands out) out (text_room commands out))

-- where the loop ends, what stands on the page is what the contract says
pub writes_end : (commands : List Command) (out : List ℕ) (p : Page) (k : ℕ) (rest : List Command)
    → writes rest p.out.now p.len k ≡ writes commands out 0 0 → writes rest p.out.now p.len k ≡ so_far p k
    → ((so_far p k).0 ≡ printed commands out) × (p.out.now ≡ printed_in commands out)
writes_end commands out p k rest whole end =
    let all = sym end ∙ whole ∙ writes_all commands out in
    (ap (λ (x : Printed × List ℕ). x.0) all, ap (λ (x : Printed × List ℕ). x.1) all)
