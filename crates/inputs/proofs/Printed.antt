-- All pieces together print what the rules say of the whole input, however it was cut. What a piece leaves is what the next one starts from, so the
-- pieces' answers are the answers to all lines, one after the other. Assumes nothing.
use Rattle.laws.proofs.Library.{◌≡◌, refl, ap, ◌∙◌, Bool, true, false, cond, List, [], ◌∷◌, ◌++◌, arith, eqb}
use Rattle.rules.specs.Limits.{narrow}
use Rattle.rules.specs.Traces.{Text, traced}
use Rattle.lines.specs.Commands.{parsed, ended, left, last_line, all_gathered, whole}
use Rattle.lines.specs.Runs.{answered, table_after}
use Rattle.lines.proofs.Runs.{answered_append}
use Rattle.printing.specs.Answers.{answers_text}
use Rattle.printing.proofs.Runs.{prints_traced, answers_append}
use Rattle.inputs.specs.declared.Trace.{Trace}
use Rattle.inputs.specs.Pieces.{started, piece_text, after, end_text, text_of}

-- the last line, where it is something
end_last : (s : Trace) → end_text s ≡ answers_text (answered narrow s.table (last_line s.line))
unfolding end_text last_line piece_text ended answers_text answered
end_last s = by (eqb s.line.len 0)
  where
    by : (b : Bool) → cond b [] (answers_text (answered narrow s.table (parsed s.line ∷ [])))
        ≡ answers_text (answered narrow s.table (cond b [] (parsed s.line ∷ [])))
    by true = refl
    by false = refl

pub text_all : (ps : List Text) (s : Trace) → text_of s ps ≡ answers_text (answered narrow s.table (all_gathered s.line ps))
unfolding text_of all_gathered piece_text after
text_all [] s = end_last s
text_all (p ∷ ps) s =
    let cs = ended s.line p in
    let rest = all_gathered (left s.line p) ps in
    rw (
      answered_append narrow cs rest s.table,
      answers_append (answered narrow s.table cs) (answered narrow (table_after narrow s.table cs) rest),
    )
    (ap (λ (t : Text). answers_text (answered narrow s.table cs) ++ t) (text_all ps (after s p)))

-- what a program prints that feeds the pieces and then closes
pub printed_traced : (ps : List Text) → text_of started ps ≡ traced narrow (whole ps)
unfolding started
printed_traced ps = text_all ps started ∙ prints_traced narrow (omega arith) ps
