use borrow.Author.Rules.{rules}
use native.Mathlib.Omega.{arith}
use mathlib.Core.Path.{◌≡◌, ap, ◌∙◌}
use mathlib.Core.List.{List}
use Prim.Native.Nat.{ℕ, ◌+◌, ◌*◌, ◌≤◌}
use lib.ListN.{length, take}
use Rattle.buffer.specs.Splice.{splice}
use Rattle.list_text.specs.Lines.{first_line, after_line}
use Rattle.sheet_walk.specs.Refusals.{refusal_number, refusal_place}
use Rattle.sheet_walk.specs.Answers.{Answer}
use Rattle.std.specs.Prelude.{Ok, Err}
use Rattle.sheet_walk.specs.declared.Refusal.{Refusal}
use Rattle.sheet_text.specs.Output.{refused_line}
use Rattle.sheet_text.specs.Input.{width_on, input_width}
use Rattle.sheet_text.specs.SheetOutput.{record_buffer, sheet_output}
use Rattle.sheet_text.proofs.Unread.{rest_unread}
use Rattle.sheet_text.proofs.SheetLaws.{counts, Did, did, sheet_refused, sheet_accepted, output_put}
use Rattle.sheet_text.proofs.sheet.sheet.Goals as goal
use Rattle.sheet_text.proofs.sheet.sheet.Goals.{After-write_list_text}

-- the output for a beginning that is long enough
beginning : (s whole : List ℕ) → s ≡ take 8192 whole → sheet_output s ≡ sheet_output whole
beginning s whole e = ap sheet_output e ∙ rest_unread whole 8192 (omega arith)

width_is : (c : After-write_list_text) → c.read_width-width.result ≡ input_width c.args.input.now
width_is c = c.read_width-width.ensures ∙ ap width_on c.split_line.ensures.line

full : (c : After-write_list_text) → length c.args.records.now ≡ record_buffer
full c = search rules

-- what writing did
wrote : (c : After-write_list_text) → Did c.args.input.now c.args.records.now c.write_list_text.result c.write_list_text.new.buffer
wrote c =
    did c.args.input.now c.args.records.now (full c) c.read_width-width.ensures c.split_line.ensures.line (c.split_line-2.ensures.line ∙ ap first_line c.split_line.ensures.rest) (c.split_line-2.ensures.rest ∙ ap after_line c.split_line.ensures.rest)
    c.write_list_text.ensures.answers c.write_list_text.ensures.bytes

-- n records fit, each with a line feed
lines_fit : (c : After-write_list_text) {count starred : ℕ} → c.write_list_text.result ≡ Ok (counts count starred)
    → (count * c.read_width-width.result ≤ record_buffer) × (count ≤ record_buffer)
lines_fit c {count} e =
    let o = sheet_accepted c.args.input.now c.args.records.now (full c) (wrote c) e in
    let w = ap (λ (x : ℕ). count * x) (width_is c) in
    (omega (arith, o.room, w), omega (arith, o.room, o.few))

pub put_records-at-requires : goal.put_records-at-requires
put_records-at-requires c = let f = lines_fit (goal.at.put_records-at-requires c).After-write_list_text c.in-Ok.is in
    let r : length c.write_list_text.new.buffer ≡ 65536 = search rules in
    let o : length c.args.output.now ≡ 131200 = search rules in
    (omega (arith, f.0), omega (arith, f.0, f.1))

pub put_line-requires-in-Ok : goal.put_line-requires-in-Ok
put_line-requires-in-Ok c = let f = lines_fit (goal.at.put_line-requires-in-Ok c).After-write_list_text c.in-Ok.is in
    let o : length c.put_records-at.new.dst ≡ 131200 = search rules in
    omega (arith, f.0, f.1, c.put_records-at.ensures.2)

-- a refused sheet's line
refused : (s before d₀ : List ℕ) {after d₁ line : List ℕ} {r : Answer} {why : Refusal} {n : ℕ} → Did s before r after → r ≡ Err why → line ≡ refused_line (refusal_number why) (refusal_place why) → d₁ ≡ splice d₀ 0 line → n ≡ 0 + length line
    → (d₁ ≡ splice d₀ 0 (sheet_output s)) × (n ≡ length (sheet_output s))
refused s before d₀ d e is put long = let o = sheet_refused s before d e in (put ∙ rw (is, o), long ∙ rw (is, o) (omega arith))

pub returns-in-Err : goal.returns-in-Err
returns-in-Err c =
    let d = wrote (goal.at.returns-in-Err c).After-write_list_text in
    let o = refused c.args.input.now c.args.records.now c.args.output.now d c.in-Err.is c.refusal_line.ensures c.put_line.ensures.line c.put_line.ensures.end in
    record { length = o.1; room = omega (arith, c.put_line.ensures.few); output = o.0; records = d.is; whole = beginning _ }

pub returns-in-Ok : goal.returns-in-Ok
returns-in-Ok c =
    let d = wrote (goal.at.returns-in-Ok c).After-write_list_text in
    let o = sheet_accepted c.args.input.now c.args.records.now (full (goal.at.returns-in-Ok c).After-write_list_text) d c.in-Ok.is in
    let f = lines_fit (goal.at.returns-in-Ok c).After-write_list_text c.in-Ok.is in
    let line = c.counts.ensures in
    let w = output_put c.args.input.now _ o c.args.output.now (width_is (goal.at.returns-in-Ok c).After-write_list_text) c.put_records-at.ensures.0 c.put_records-at.ensures.1 (rw line at c.put_line-in-Ok.ensures.line) (rw line at c.put_line-in-Ok.ensures.end) in
    record {
      length = w.0;
      room = omega (arith, f.0, f.1, c.put_records-at.ensures.2, c.put_line-in-Ok.ensures.few);
      output = w.1;
      records = d.is;
      whole = beginning _;
    }
