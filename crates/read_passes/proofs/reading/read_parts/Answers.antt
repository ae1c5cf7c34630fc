use Rattle.std.proofs.Common.{refl, sym, ap, ◌∙◌, arith, []}
use Rattle.sheet_walk.proofs.Parts.{fewer_left, stops_ends, stops_refused}
use Rattle.sheet_walk.specs.Followed.{left_of}
use Rattle.read_passes.specs.Passes.{gathered_of}
use Rattle.read_passes.proofs.PassLaws.{joined_none, is_refused, is_accepted, none_accepted, same_accepted, placed_part, part_begins, part_unread, part_read, part_goes_on}
use Rattle.read_passes.proofs.reading.read_parts.Goals as goal

pub loop-place-init : goal.loop-place-init
loop-place-init c = (
  refl,
  refl,
  record {
    goes_by = c.new-walk.ensures.goes_by;
    gathering =
        record {
          cs = [];
          many = sym c.new-walk.ensures.none_taken;
          so_far = λ j g. absurd (omega arith);
          same = joined_none _ ∙ ap (gathered_of c.args.sheet) c.new-walk.ensures.left;
        };
  },
)

pub take-requires-clause-begins : goal.take-requires-clause-begins
take-requires-clause-begins c =
    let g = c.loop-place.invariant.2 in
    let p = placed_part c.args.sheet g c.place-placed.ensures in
    record { whole = left_of c.loop-place.walk; taken = p.taken; left = p.left; begins = part_begins c.args.sheet g c.place-placed.ensures c.taken-first.ensures }

pub returns-in-Some : goal.returns-in-Some
returns-in-Some c =
    let e = part_unread c.args.sheet c.loop-place.invariant.2 c.place-placed.ensures c.taken-first.ensures c.take.new.found c.take.result c.take.ensures c.in-Some.is in
    record { ends = rw e refl; found = λ cs n f. none_accepted e f }

pub returns-in-Ends : goal.returns-in-Ends
returns-in-Ends c =
    let g = c.loop-place.invariant.2 in
    let y = part_read c.args.sheet g c.place-placed.ensures c.taken-first.ensures c.take.new.found c.take.result c.take.ensures c.in_default.not-Some in
    let e = is_accepted c.args.sheet y (stops_ends (placed_part c.args.sheet g c.place-placed.ensures) c.in-Ends.is) in
    record { ends = rw e refl; found = λ cs n f. rw (sym (same_accepted e f)) y.so_far }

pub returns-in-Refused : goal.returns-in-Refused
returns-in-Refused c =
    let g = c.loop-place.invariant.2 in
    let y = part_read c.args.sheet g c.place-placed.ensures c.taken-first.ensures c.take.new.found c.take.result c.take.ensures c.in_default.not-Some in
    let e = is_refused c.args.sheet y (stops_refused (placed_part c.args.sheet g c.place-placed.ensures) c.in-Refused.is) in
    record { ends = rw e refl; found = λ cs n f. none_accepted e f }

pub loop-place-smaller : goal.loop-place-smaller
loop-place-smaller c = fewer_left (placed_part c.args.sheet c.loop-place.invariant.2 c.place-placed.ensures) c.in-Full.is (omega (arith, c.requires.some, c.loop-place.invariant.1, c.place-placed.auto.covers))

pub loop-place-preserved : goal.loop-place-preserved
loop-place-preserved c = (
  c.take.auto.found ∙ c.loop-place.invariant.0,
  c.place-placed.auto.covers ∙ c.loop-place.invariant.1,
  part_goes_on c.args.sheet c.loop-place.invariant.2 c.place-placed.ensures c.taken-first.ensures c.take.new.found c.take.result c.take.ensures c.in_default.not-Some c.in-Full.is,
)
