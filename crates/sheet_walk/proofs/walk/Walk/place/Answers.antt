use Rattle.std.proofs.Common.{◌≡◌, refl, ap, subst, ◌∙◌, ◌++◌, ◌+◌, ◌-◌, ◌≤◌, length, take, drop, arith}
use Rattle.std.specs.Prelude.{Ok, Err}
use Rattle.std.proofs.lemmas.List.{take_more_set, length-set}
use lib.ListN.{length-append, length-take, length-drop}
use lib.Seq.{length-take-le}
use borrow.Rule.Slice.PartMut.{put_mid}
use Rattle.buffer.proofs.Splicing.{front_and_part}
use Rattle.sheet_walk.specs.Followed.{TurnIs}
use Rattle.sheet_walk.proofs.Parts.{Begun, begun_none, begun_moves, begun_fields, begun_more, placed_ends, placed_refused, placed_full}
use Rattle.sheet_walk.proofs.walk.Walk.place.Goals as goal
use Rattle.sheet_walk.proofs.walk.Walk.place.Goals.{After-fields-count}

pub loop-covers-init : goal.loop-covers-init
loop-covers-init c = (begun_none c.args.self.now, omega arith, refl)

-- with the fields that were placed
begun : (c : After-fields-count) → Begun c.args.self.now c.fields-count.new.self (take (c.loop-covers.count + c.fields-count.result) (put_mid c.loop-covers.count (length c.loop-covers.covers - c.loop-covers.count) c.loop-covers.covers c.fields-count.new.covers))
begun c =
    let i = c.loop-covers.invariant in
    rw (← front_and_part c.loop-covers.count (length c.loop-covers.covers - c.loop-covers.count) c.fields-count.result c.loop-covers.covers c.fields-count.new.covers i.1 c.fields-count.ensures.few)
    (begun_fields i.0 c.fields-count.ensures.as_fields)

-- the slice is as long as before
long : (c : After-fields-count) → length (put_mid c.loop-covers.count (length c.loop-covers.covers - c.loop-covers.count) c.loop-covers.covers c.fields-count.new.covers) ≡ length c.loop-covers.covers
long c =
    let n = c.loop-covers.count in
    let xs = c.loop-covers.covers in
    let i = c.loop-covers.invariant in
    let new : length c.fields-count.new.covers ≡ length xs - n = c.fields-count.auto.covers ∙ simp (length-take, length-drop) (omega arith) in
    let a = length-append (take n xs) (c.fields-count.new.covers ++ drop (length xs - n) (drop n xs)) in
    let b = length-append c.fields-count.new.covers (drop (length xs - n) (drop n xs)) in
    let l : length (take n xs) ≡ n = length-take-le n xs i.1 in
    omega (arith, a, b, l, new, length-drop (length xs - n) (drop n xs), length-drop n xs, i.1)

-- they lie in the slice
few : (c : After-fields-count) → c.loop-covers.count + c.fields-count.result ≤ length (put_mid c.loop-covers.count (length c.loop-covers.covers - c.loop-covers.count) c.loop-covers.covers c.fields-count.new.covers)
few c =
    let i = c.loop-covers.invariant in
    omega (arith, long c, i.1, c.fields-count.ensures.few, c.fields-count.auto.covers, length-drop c.loop-covers.count c.loop-covers.covers)

pub returns-then-covers-count : goal.returns-then-covers-count
returns-then-covers-count c =
    let f = (goal.at.returns-then-covers-count c).After-fields-count in
    placed_full (few f) (begun f) (omega (arith, few f, c.if-covers-count.true))

pub loop-covers-preserved-in-Ok-Moves : goal.loop-covers-preserved-in-Ok-Moves
loop-covers-preserved-in-Ok-Moves c =
    let f = (goal.at.loop-covers-preserved-in-Ok-Moves c).After-fields-count in
    (begun_moves (begun f) (subst (λ x. TurnIs c.fields-count.new.self x c.turn.new.self) (c.in-Ok-Moves.is ∙ ap (λ x. Ok x) c.in-Ok-Moves.field-0-is) c.turn.ensures), few f, long f ∙ c.loop-covers.invariant.2)

pub loop-covers-preserved : goal.loop-covers-preserved
loop-covers-preserved c =
    let f = (goal.at.loop-covers-preserved c).After-fields-count in
    let cs = put_mid c.loop-covers.count (length c.loop-covers.covers - c.loop-covers.count) c.loop-covers.covers c.fields-count.new.covers in
    let n = c.loop-covers.count + c.fields-count.result in
    let m = subst (λ x. TurnIs c.fields-count.new.self x c.turn.new.self) (c.in-Ok-Covers.is ∙ ap (λ x. Ok x) c.in-Ok-Covers.field-0-is) c.turn.ensures in
    (rw (take_more_set cs n c.in-Ok-Covers.cover (omega (arith, c.if-covers-count.false))) (begun_more (begun f) m), rw (length-set cs n c.in-Ok-Covers.cover) (omega (arith, c.if-covers-count.false)), length-set cs n c.in-Ok-Covers.cover ∙ long f ∙ c.loop-covers.invariant.2)

pub returns-in-Ok-Ends : goal.returns-in-Ok-Ends
returns-in-Ok-Ends c =
    let f = (goal.at.returns-in-Ok-Ends c).After-fields-count in
    let m = subst (λ x. TurnIs c.fields-count.new.self x c.turn.new.self) (c.in-Ok-Ends.is ∙ ap (λ x. Ok x) c.in-Ok-Ends.field-0-is) c.turn.ensures in
    rw c.reached-records.ensures (placed_ends (few f) (begun f) c.turn.new.self m)

pub returns-in-Err : goal.returns-in-Err
returns-in-Err c =
    let f = (goal.at.returns-in-Err c).After-fields-count in
    placed_refused (few f) (begun f) c.turn.new.self (subst (λ x. TurnIs c.fields-count.new.self x c.turn.new.self) (c.in-Err.is ∙ ap (λ x. Err x) c.in-Err.why-is) c.turn.ensures)
