use Rattle.std.proofs.Common.{refl, sym, subst, ap, ◌∙◌, arith, rules}
use Rattle.sheet_walk.proofs.Parts.{fewer_left}
use Rattle.sheet_walk.specs.Columns.{In}
use Rattle.write_passes.specs.Placed.{starred_in, judged}
use Rattle.write_passes.specs.Passes.{values_of, laid_in}
use Rattle.write_passes.proofs.LayLaws.{part, part_begins, part_plain, few_so_far, goes_on_laying, all_laid}
use Rattle.write_passes.proofs.laying.lay_pass.Goals as goal

pub loop-init : goal.loop-init
loop-init c =
    let s = c.args.sheet in
    let e = c.new-walk.ensures.left in (
      refl,
      refl,
      record {
        goes_by = c.new-walk.ensures.goes_by;
        within = λ p i. subst (In p) e i;
        n = c.requires.accepts.n;
        accepts = ap (judged (values_of s)) e ∙ c.requires.accepts.accepts;
        bytes = ap (λ t. laid_in s t c.args.buffer.now) e;
        stars = let k = ap (starred_in (values_of s)) e in omega arith;
      },
    )

pub lay-starred-requires : goal.lay-starred-requires
lay-starred-requires c =
    let i = c.loop.invariant in
    record { room = omega (arith, c.requires.room, i.0); begins = part_begins c.args.sheet i.2 c.place-placed.ensures c.taken-first.ensures; plain = λ e. part_plain c.args.sheet i.2 c.place-placed.ensures c.taken-first.ensures (sym c.has_sp-sp.ensures ∙ e) }

pub overflow_add-starred : goal.overflow_add-starred
overflow_add-starred c =
    let i = c.loop.invariant in
    let k = few_so_far c.args.sheet i.2 c.place-placed.ensures c.taken-first.ensures c.lay-starred.result c.lay-starred.new.buffer c.lay-starred.ensures.stars c.lay-starred.ensures.bytes c.requires.accepts.accepts in
    search rules

pub returns-in_default : goal.returns-in_default
returns-in_default c =
    let i = c.loop.invariant in
    let k = all_laid c.args.sheet i.2 c.place-placed.ensures c.taken-first.ensures c.lay-starred.result c.lay-starred.new.buffer c.lay-starred.ensures.stars c.lay-starred.ensures.bytes c.in_default.not-Full in
    record { stars = k.0; bytes = k.1 }

pub loop-smaller : goal.loop-smaller
loop-smaller c =
    let i = c.loop.invariant in
    fewer_left (part c.args.sheet i.2 c.place-placed.ensures) c.in-Full.is (omega (arith, c.requires.some, i.1, c.place-placed.auto.covers))

pub loop-preserved : goal.loop-preserved
loop-preserved c =
    let i = c.loop.invariant in (
      c.lay-starred.auto.buffer ∙ i.0,
      c.place-placed.auto.covers ∙ i.1,
      goes_on_laying c.args.sheet i.2 c.place-placed.ensures c.taken-first.ensures c.lay-starred.result c.lay-starred.new.buffer c.lay-starred.ensures.stars c.lay-starred.ensures.bytes c.in-Full.is,
    )
