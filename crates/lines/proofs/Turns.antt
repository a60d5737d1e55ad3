-- What the loop of `gather` comes to from a turn on: a turn leaves it as it was, at the end it is what stands there, and at the start it is
-- what the contract says. Assumes nothing.
use Rattle.laws.proofs.Library.{◌≡◌, List, [], ◌∷◌, ◌++◌, ℕ, suc, ◌+◌, ◌≤◌, ◌<◌, add-zero, zero-add, add-one, arith, eq-eqb, ne_eqb, le-leb, lt-leb}
use Rattle.laws.proofs.Library.{eqb, length, set, get_or, drop, drop_of_length-le, sets, sets-eq, drop-cons}
use Rattle.std.specs.declared.option.Option.{Option}
use Rattle.std.specs.declared.option.Option.TheVariants.{None, Some}
use Rattle.rules.specs.Traces.{Text}
use Rattle.lines.specs.declared.Unfinished.{Unfinished}
use Rattle.lines.specs.declared.Command.{Command}
use Rattle.lines.specs.declared.Gathered.{Gathered}
use Rattle.lines.specs.Commands.{parsed, begun, pushed, ended, left, gathered, gathered_in}
use Rattle.lines.proofs.Splits.{either}

-- a store at the front is what was stored, over the buffer
sets_front : {A : Type 0} (vs l : List A) → length vs ≤ length l → sets l 0 vs ≡ vs ++ drop (length vs) l
sets_front vs l h = rw zero-add at (sets-eq vs l 0 (omega arith))

-- with n commands in the buffer, l unfinished and the bytes p to come
unfoldable pub gathers : Unfinished → Text → List Command → ℕ → Gathered × List Command
gathers l p buffer n = (record { line = left l p; count = n + length (ended l p) }, sets buffer n (ended l p))

-- a newline: what was said is stored
pub gathers_line : (l fresh : Unfinished) (p : Text) (buffer after : List Command) (n m i : ℕ) → i < length p → get_or p i 0 ≡ 10
    → after ≡ set buffer n (parsed l) → fresh ≡ begun → m ≡ n + 1
    → gathers fresh (drop (i + 1) p) after m ≡ gathers l (drop i p) buffer n
unfolding gathers left ended
gathers_line l fresh p buffer after n m i h e stored new counted =
    let more : n + suc (length (ended begun (drop (suc i) p))) ≡ n + 1 + length (ended begun (drop (suc i) p)) = omega arith in
    rw (new, stored, counted, drop-cons p i 0 h, eq-eqb (get_or p i 0) 10 e, add-one, more, add-one n)

-- any other byte
pub gathers_byte : (l more : Unfinished) (p : Text) (buffer after : List Command) (n m i : ℕ) → i < length p → (get_or p i 0 ≡ 10 → ⊥)
    → more ≡ pushed l (get_or p i 0) → after ≡ buffer → m ≡ n
    → gathers more (drop (i + 1) p) after m ≡ gathers l (drop i p) buffer n
unfolding gathers left ended
gathers_byte l more p buffer after n m i h e pushes same none =
    rw (pushes, same, none, drop-cons p i 0 h, ne_eqb (get_or p i 0) 10 e, add-one)

pub gathers_end : (l : Unfinished) (p : Text) (buffer : List Command) (n i : ℕ) → length p ≤ i
    → gathers l (drop i p) buffer n ≡ (record { line = l; count = n }, buffer)
unfolding gathers left ended
gathers_end l p buffer n i h = rw (drop_of_length-le p h, add-zero)

pub ended_few : (p : Text) (l : Unfinished) → length (ended l p) ≤ length p
unfolding ended
ended_few [] l = omega arith
ended_few (x ∷ p) l =
    either (λ (cs : List Command). length cs ≤ suc (length p)) (eqb x 10) (λ e. omega (arith, ended_few p begun)) (λ e. omega (arith, ended_few p (pushed l x)))

pub gathers_all : (l : Unfinished) (p : Text) (buffer : List Command) → length p ≤ length buffer
    → (Some (gathers l p buffer 0).0 ≡ gathered l p buffer) × ((gathers l p buffer 0).1 ≡ gathered_in l p buffer)
unfolding gathers gathered gathered_in
gathers_all l p buffer h =
    let e = le-leb (length p) (length buffer) h in
    (rw (e, zero-add), rw e (sets_front (ended l p) buffer (omega (arith, h, ended_few p l))))

pub gathers_none : (l : Unfinished) (p : Text) (buffer : List Command) → length buffer < length p
    → (◌≡◌ {A = Option Gathered} None (gathered l p buffer)) × (buffer ≡ gathered_in l p buffer)
unfolding gathered gathered_in
gathers_none l p buffer h = let e = lt-leb (length p) (length buffer) h in (rw e, rw e)
