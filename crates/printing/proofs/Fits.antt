-- How many answers have room, and what is left of them: who prints what is left again, in a buffer that the longest fits, prints at least
-- one each time, and in the end all. Assumes nothing.
use Rattle.laws.proofs.Library.{◌≡◌, refl, List, [], ◌∷◌, ◌++◌, ℕ, suc, ◌-◌, ◌≤◌, ◌<◌, arith, le-leb, lt-leb, leb-true, leb}
use Rattle.laws.proofs.Library.{length, take, take-append-drop, drop, length-append}
use Rattle.rules.specs.Traces.{Text}
use Rattle.lines.specs.declared.Command.{Command}
use Rattle.lines.proofs.Splits.{either}
use Rattle.printing.specs.Answers.{longest, answer_text, answers_text, fitting, fits, text_in}
use Rattle.printing.proofs.Texts.{answer_room}
use Rattle.printing.proofs.Runs.{answers_append}

-- ---- by the room there is

-- what so much room takes
unfoldable pub fitted : ℕ → List Command → Text
fitted room cs = answers_text (take (fitting room cs) cs)

pub fitting_more : (room : ℕ) (c : Command) (cs : List Command) → longest ≤ room
    → fitting room (c ∷ cs) ≡ suc (fitting (room - length (answer_text c)) cs)
unfolding fitting
fitting_more room c cs h = rw (le-leb longest room h)

pub fitted_more : (room : ℕ) (c : Command) (cs : List Command) → longest ≤ room
    → fitted room (c ∷ cs) ≡ answer_text c ++ fitted (room - length (answer_text c)) cs
unfolding fitted answers_text
fitted_more room c cs h = rw (fitting_more room c cs h)

pub fitting_none : (room : ℕ) (cs : List Command) → room < longest → fitting room cs ≡ 0
unfolding fitting
fitting_none room [] h = refl
fitting_none room (c ∷ cs) h = rw (lt-leb longest room h)

pub fitted_none : (room : ℕ) (cs : List Command) → room < longest → fitted room cs ≡ []
unfolding fitted answers_text
fitted_none room cs h = rw (fitting_none room cs h)

fitted_room : (cs : List Command) (room : ℕ) → length (fitted room cs) ≤ room
unfolding fitted fitting answers_text
fitted_room [] room = omega arith
fitted_room (c ∷ cs) room =
    either (λ (n : ℕ). length (answers_text (take n (c ∷ cs))) ≤ room) (leb longest room)
    (λ e. rw length-append (omega (arith, leb-true longest room e, answer_room c, fitted_room cs (room - length (answer_text c)))))
    (λ e. omega arith)

fitting_few : (cs : List Command) (room : ℕ) → fitting room cs ≤ length cs
unfolding fitting
fitting_few [] room = omega arith
fitting_few (c ∷ cs) room =
    either (λ (n : ℕ). n ≤ suc (length cs)) (leb longest room) (λ e. omega (arith, fitting_few cs (room - length (answer_text c)))) (λ e. omega arith)

fitting_some : (cs : List Command) (room : ℕ) → longest ≤ room → 1 ≤ length cs → 1 ≤ fitting room cs
fitting_some [] room h k = absurd (omega arith)
fitting_some (c ∷ cs) room h k = rw (fitting_more room c cs h) (omega arith)

-- ---- in a buffer

module _ (commands : List Command) (out : List ℕ) where
  pub fits_few : fits commands out ≤ length commands
  fits_few = fitting_few commands (length out)

  pub fits_some : longest ≤ length out → 1 ≤ length commands → 1 ≤ fits commands out
  fits_some h k = fitting_some commands (length out) h k

  pub text_room : length (text_in commands out) ≤ length out
  unfolding fitted
  text_room = fitted_room commands (length out)

  -- the text printed, and that of the answers left, is the text of all
  pub text_then : text_in commands out ++ answers_text (drop (fits commands out) commands) ≡ answers_text commands
  text_then =
      let k = fits commands out in
      rw (← answers_append (take k commands) (drop k commands), take-append-drop k commands)
