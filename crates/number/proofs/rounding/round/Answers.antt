use mathlib.Core.Path.{◌≡◌, refl}
use Prim.Native.Nat.{◌-◌, ◌*◌, ◌^◌, ◌≤◌}
use native.Mathlib.Omega.{arith}
use lib.ListN.{get_or}
use Rattle.number.specs.Limits.{largest}
use Rattle.number.proofs.PowerLaws.{ten_pos, table_at}
use Rattle.number.proofs.RoundingLaws.{nearest_same, nearest_up, nearest_down, answer_units, answer_large, times_small, times_large, down_small}
use borrow.Author.Rules.{rules}
use Rattle.number.proofs.rounding.round.Goals as goal
use Rattle.number.proofs.rounding.round.Goals.{After-table-powers, Then-units-powers}

-- the power to multiply by, and the one to stay below
factor : (c : After-table-powers) → get_or c.table-powers.result (c.args.wanted - c.args.places) 0 ≡ 10 ^ (c.args.wanted - c.args.places)
factor c = table_at c.table-powers.result _ c.table-powers.ensures.all (search rules)

limit : (c : After-table-powers) → get_or c.table-powers.result (18 - (c.args.wanted - c.args.places)) 0 ≡ 10 ^ (18 - (c.args.wanted - c.args.places))
limit c = table_at c.table-powers.result _ c.table-powers.ensures.all (omega arith)

few : (c : After-table-powers) → c.args.wanted - c.args.places ≤ 18
few c = search rules

small : (c : Then-units-powers) → c.args.units * get_or c.table-powers.result (c.args.wanted - c.args.places) 0 ≤ largest
small c = times_small _ (few c.before) (factor c.before) (limit c.before) c.if-units-powers.true

pub returns-then-places-wanted : goal.returns-then-places-wanted
returns-then-places-wanted c = answer_units _ _ _ (nearest_same _ _ _ c.if-places-wanted.true) c.requires.0

pub overflow_mul-result : goal.overflow_mul-result
overflow_mul-result c = omega (arith, small (goal.at.overflow_mul-result c).Then-units-powers)

pub returns-then-units-powers : goal.returns-then-units-powers
returns-then-units-powers c = answer_units _ _ _ (nearest_up _ _ _ (omega (arith, c.if-places-wanted-2.true)) (factor (goal.at.returns-then-units-powers c).After-table-powers)) (small (goal.at.returns-then-units-powers c).Then-units-powers)

pub returns-then-places-wanted-2 : goal.returns-then-places-wanted-2
returns-then-places-wanted-2 c = answer_large _ _ _ (nearest_up _ _ _ (omega (arith, c.if-places-wanted-2.true)) (factor (goal.at.returns-then-places-wanted-2 c).After-table-powers)) (times_large _ (few (goal.at.returns-then-places-wanted-2 c).After-table-powers) (factor (goal.at.returns-then-places-wanted-2 c).After-table-powers) (limit (goal.at.returns-then-places-wanted-2 c).After-table-powers) c.if-units-powers.false)

pub returns : goal.returns
returns c =
    let k = c.args.places - c.args.wanted in
    rw c.fewer_places.ensures
    (answer_units _ _ _ (nearest_down _ _ _ {p = 10 ^ k} (omega arith) refl) (down_small (ten_pos k) c.requires.0))
