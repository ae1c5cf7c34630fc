-- What the format check answers, with its number and its place.
-- Assumes nothing.
use Rattle.std.specs.Prelude.{ℕ, Result, Ok, Err}
use Rattle.format_grammar.specs.Check.{Outcome, accepted, refused}
use Rattle.format_items.specs.Refusals.{refusal_number, refusal_place}
use Rattle.format_items.specs.declared.FormatRefusal.{FormatRefusal}

-- accepted, or the refusal
abbrev pub CheckAnswer : Type 0
CheckAnswer = Result (Unit {0}) FormatRefusal

-- the answer that an outcome has
abbrev pub answer : Outcome → CheckAnswer
answer (accepted xs) = Ok tt
answer (refused why) = Err why

-- the rules' number and place of each answer; 0 where the format is accepted
abbrev pub answer_number : CheckAnswer → ℕ
answer_number (Ok _) = 0
answer_number (Err why) = refusal_number why

abbrev pub answer_place : CheckAnswer → ℕ
answer_place (Ok _) = 0
answer_place (Err why) = refusal_place why
