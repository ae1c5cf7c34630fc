-- The rules, 'The walk' and 'Checks by place': number, place, records and starred of an answer.
-- Assumes nothing.
use Rattle.std.specs.Prelude.{ℕ, Result, Ok, Err}
use Rattle.sheet_walk.specs.Refusals.{refusal_number, refusal_place}
use Rattle.sheet_walk.specs.declared.Refusal.{Refusal}
use Rattle.sheet_walk.specs.declared.Counts.{Counts}

-- what writing and reading answer
abbrev pub Answer : Type 0
Answer = Result Counts Refusal

-- 0 where a call is accepted
abbrev pub answer_number : Answer → ℕ
answer_number (Ok n) = 0
answer_number (Err why) = refusal_number why

abbrev pub answer_place : Answer → ℕ
answer_place (Ok n) = 0
answer_place (Err why) = refusal_place why

-- 'The result carries the number of records and the number of starred fields'; a refusal 'zero records, zero starred'
abbrev pub answer_records : Answer → ℕ
answer_records (Ok n) = n.records
answer_records (Err why) = 0

abbrev pub answer_starred : Answer → ℕ
answer_starred (Ok n) = n.starred
answer_starred (Err why) = 0
