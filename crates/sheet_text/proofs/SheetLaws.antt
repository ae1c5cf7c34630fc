-- The whole output, from what its parts do.
-- Assumes nothing.
use mathlib.Core.Path.{◌≡◌, refl, sym, ap, ◌∙◌}
use mathlib.Core.List.{List, [], ◌++◌}
use Prim.Native.Nat.{ℕ, ◌+◌, ◌*◌, ◌≤◌}
use native.Mathlib.Omega.{arith}
use lib.ListN.{length, drop, length-append}
use Rattle.buffer.specs.Splice.{splice}
use Rattle.buffer.proofs.Splicing.{splice_then}
use Rattle.list_elements.proofs.ContentLaws.{values_list}
use Rattle.list_elements.specs.declared.Value.{Value}
use Rattle.sheet_walk.specs.Walk.{Trace}
use Rattle.sheet_walk.specs.Laid.{written}
use Rattle.sheet_walk.specs.Refusals.{refusal_number, refusal_place}
use Rattle.sheet_walk.specs.declared.Refusal.{Refusal}
use Rattle.sheet_walk.specs.Answers.{Answer}
use Rattle.sheet_walk.specs.declared.Counts.{Counts}
use Rattle.std.specs.Prelude.{Ok, Err}
use Rattle.sheet_walk.proofs.Windows.{AllFit}
use Rattle.write_passes.specs.Placed.{characters, starred_in}
use Rattle.sheet_write.specs.Writing.{Writing, accepts, refuses, answer_of, buffer_of}
use Rattle.sheet_write.proofs.Promises.{placed_right}
use Rattle.list_text.specs.Lines.{first_line}
use Rattle.list_text.specs.ListText.{line_values}
use Rattle.sheet_text.specs.FromListText.{writing_from, answer_from, buffer_from}
use Rattle.sheet_text.specs.Input.{width_on, input_width, input_format, input_list}
use Rattle.sheet_text.specs.Output.{record_lines, counts_line, refused_line}
use Rattle.sheet_text.specs.SheetOutput.{record_buffer, input_writing, sheet_output}
use Rattle.sheet_text.proofs.TextLaws.{call_of, text_called, text_reached}
use Rattle.sheet_text.proofs.LineLaws.{lines_front}
use Rattle.sheet_text.proofs.RecordLaws.{written_front, written_long}

-- ---- what writing did

-- the answer r and the records afterwards are those of the input
pub record Did (s before : List ℕ) (r : Answer) (after : List ℕ) : Type 0 where
  pub answers : r ≡ answer_of (line_values (input_list s)) (input_writing s)
  pub bytes : after ≡ buffer_of (input_width s) (input_list s) (line_values (input_list s)) before (input_writing s)
  pub is : after ≡ buffer_from (input_width s) (input_format s) (input_list s) before

pub did : (s before : List ℕ) {width : ℕ} {line format text : List ℕ} {r : Answer} {after : List ℕ} → length before ≡ record_buffer → width ≡ width_on line → line ≡ first_line s → format ≡ input_format s → text ≡ input_list s
    → r ≡ answer_from width format text before → after ≡ buffer_from width format text before → Did s before r after
did s before l w e f g a b =
    let x : _ = w ∙ ap width_on e in
    record { answers = a ∙ rw (x, f, g, l); bytes = b ∙ rw (x, f, g, l); is = b ∙ rw (x, f, g) }

-- ---- a refused input

refused_writing : (vs : List Value) (w : Writing) {why : Refusal} → Err why ≡ answer_of vs w → w ≡ refuses why
refused_writing vs (accepts t n) e = let z : ⊥ = cc in absurd z
refused_writing vs (refuses why) e = cc

pub sheet_refused : (s before : List ℕ) {r : Answer} {after : List ℕ} {why : Refusal} → Did s before r after → r ≡ Err why → sheet_output s ≡ refused_line (refusal_number why) (refusal_place why)
unfolding sheet_output
sheet_refused s before d e = rw (refused_writing (line_values (input_list s)) (input_writing s) (sym e ∙ d.answers))

-- ---- an accepted one

abbrev pub counts : ℕ → ℕ → Counts
counts n k = record { records = n; starred = k }

data AcceptedWriting (vs : List Value) (n k : ℕ) : Writing → Type 0 where
  accepted_as : (t : Trace) → k ≡ starred_in vs t → AcceptedWriting vs n k (accepts t n)

accepted_writing : (vs : List Value) (w : Writing) {n k : ℕ} → Ok (counts n k) ≡ answer_of vs w → AcceptedWriting vs n k w
accepted_writing vs (accepts t m) {n} {k} e = rw (ap (λ z. z.records) same) (AcceptedWriting.accepted_as t (ap (λ z. z.starred) same))
  where
    same : counts n k ≡ counts m (starred_in vs t)
    same = cc
accepted_writing vs (refuses why) e = let z : ⊥ = cc in absurd z

-- what is known of it: n records of R bytes fit, and the output is theirs, from the buffer afterwards
pub record Output (s after : List ℕ) (n k : ℕ) : Type 0 where
  pub room : n * input_width s ≤ record_buffer
  pub few : n ≤ n * input_width s
  pub is : sheet_output s ≡ record_lines (input_width s) n after ++ counts_line n k

module _ (s before after : List ℕ) (l : length before ≡ record_buffer) (t : Trace) (n k : ℕ) (w : input_writing s ≡ accepts t n) where
  abbrev R : ℕ
  R = input_width s

  abbrev vs : List Value
  vs = line_values (input_list s)

  here : writing_from R (input_format s) (input_list s) (length before) ≡ accepts t n
  here = rw l w

  all_fit : AllFit R n (characters (input_list s) vs) t
  all_fit p m =
      let a = placed_right (call_of R (input_format s) (input_list s) before) t n (text_called R (input_format s) (input_list s) before t n here) p m in
      (a.0, rw (values_list vs) at a.1)

  known : after ≡ written R (characters (input_list s) vs) t n before → k ≡ starred_in vs t → Output s after n k
  unfolding sheet_output
  known e q =
      let r = text_reached R (input_format s) (input_list s) before t n here in
      let f : record_lines R n after ≡ record_lines R n (written R (characters (input_list s) vs) t n []) =
      ap (record_lines R n) (e ∙ written_front R n (characters (input_list s) vs) t before all_fit)
      ∙ lines_front R n (written R (characters (input_list s) vs) t n []) (drop (n * R) before) (omega (arith, written_long R n (characters (input_list s) vs) t all_fit)) in
      record { room = omega arith; few = r.1; is = rw (w, q) (ap (λ (x : List ℕ). x ++ counts_line n (starred_in vs t)) (sym f)) }

pub sheet_accepted : (s before : List ℕ) {r : Answer} {after : List ℕ} {n k : ℕ} → length before ≡ record_buffer → Did s before r after → r ≡ Ok (counts n k) → Output s after n k
sheet_accepted s before {r} {after} {n} {k} l d e = go (input_writing s) refl (accepted_writing (line_values (input_list s)) (input_writing s) (sym e ∙ d.answers))
  where
    go : (w : Writing) → input_writing s ≡ w → AcceptedWriting (line_values (input_list s)) n k w → Output s after n k
    go w q (AcceptedWriting.accepted_as t f) = known s before after l t n k q (d.bytes ∙ ap (buffer_of (input_width s) (input_list s) (line_values (input_list s)) before) q) f

-- ---- the output put

pub output_put : (s after : List ℕ) {n k : ℕ} (o : Output s after n k) (d₀ : List ℕ) {R at end : ℕ} {d₁ d₂ : List ℕ} → R ≡ input_width s → d₁ ≡ splice d₀ 0 (record_lines R n after) → at ≡ length (record_lines R n after)
    → d₂ ≡ splice d₁ at (counts_line n k) → end ≡ at + length (counts_line n k) → (end ≡ length (sheet_output s)) × (d₂ ≡ splice d₀ 0 (sheet_output s))
output_put s after {n} {k} o d₀ {R} {at} {end} {d₁} {d₂} w a b c e =
    let is : sheet_output s ≡ record_lines R n after ++ counts_line n k = rw w o.is in (
      omega (arith, ap length is, length-append (record_lines R n after) (counts_line n k)),
      rw is (splice_then d₀ d₁ d₂ 0 at (record_lines R n after) (counts_line n k) a c (omega arith) (omega arith)),
    )
