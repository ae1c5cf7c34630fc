use Rattle.std.proofs.Common.{◌≡◌, ◌∙◌, sym, ap, subst, ◌∷◌, ℕ, ◌+◌, ◌*◌, ◌-◌, take, arith}
use Rattle.format_words.specs.declared.Entry.TheVariants as entry
use Rattle.format_words.specs.Held.{SomeItems}
use Rattle.format_run.specs.Sizes.{capped}
use Rattle.format_run.proofs.Views.{Group, as_group, inside_of}
use Rattle.format_run.proofs.Adding.{held_left, added_all, added_item, added_group}
use Rattle.format_run.proofs.size.+size_of.Goals as goal
use Rattle.format_run.proofs.size.+size_of.Goals.{After-from-in-Group, After-split_at}

-- the entries left begin with a group's
abbrev left : (t : ℕ) (c : After-from-in-Group t) → SomeItems (entry.Group c.in-Group.entries c.in-Group.repeat ∷ c.in-Some.tail.now) c.args.level
left t c = subst (λ es. SomeItems es c.args.level) (c.in-Some.ensures.cases.0 ∙ ap (λ e. e ∷ c.in-Some.tail.now) c.in-Group.is) (held_left c.loop-entry.invariant c.requires)

group : (t : ℕ) (c : After-from-in-Group t) → Group (left t c).t (left t c).c c.args.level c.in-Group.entries c.in-Group.repeat c.in-Some.tail.now (left t c).items
group t c = as_group (left t c).holds

pub loop-entry-preserved-in-Item : goal.loop-entry-preserved-in-Item
loop-entry-preserved-in-Item t c =
    added_item c.loop-entry.invariant c.min-total.result (c.in-Some.ensures.cases.0 ∙ ap (λ e. e ∷ c.in-Some.tail.now) c.in-Item.is)
    (omega (arith, c.min-total.ensures, c.from.ensures))

pub split_at-requires : goal.split_at-requires
split_at-requires t c = let g = group t (goal.at.split_at-requires t c).After-from-in-Group in omega (arith, g.few, c.from-in-Group.ensures)

pub overflow_sub-level : goal.overflow_sub-level
overflow_sub-level t c = (group t (goal.at.overflow_sub-level t c).After-from-in-Group).deep

-- the first part of the others is the group's
inside_is : (t : ℕ) (c : After-split_at t) → take c.in-Group.entries c.in-Some.tail.now ≡ c.split_at.result.0.now
inside_is t c = sym (c.split_at.ensures.front ∙ ap (λ n. take n c.in-Some.tail.now) c.from-in-Group.ensures)

pub size_of-requires : goal.size_of-requires
size_of-requires t c =
    let a = goal.at.size_of-requires t c in
    let g = group t a.After-from-in-Group in
    (omega (arith, g.deep), subst (λ es. SomeItems es (c.args.level - 1)) (inside_is t a.After-split_at) (inside_of (left t a.After-from-in-Group)))

pub loop-entry-preserved : goal.loop-entry-preserved
loop-entry-preserved t c =
    rw (c.split_at.ensures.back, c.from-in-Group.ensures)
    (added_group c.loop-entry.invariant c.size_of.result c.min-total-in-Group.result (c.in-Some.ensures.cases.0 ∙ ap (λ e. e ∷ c.in-Some.tail.now) c.in-Group.is)
    (λ u d ys h. c.size_of.ensures.sized u d ys (rw (c.split_at.ensures.front, c.from-in-Group.ensures) h))
    (c.min-total-in-Group.ensures ∙ ap (λ (r : ℕ). capped (c.loop-entry.total + r * c.size_of.result)) c.from-in-Group-2.ensures))

pub returns-clause-sized : goal.returns-clause-sized
returns-clause-sized t c = added_all c.loop-entry.invariant c.in_default.ensures.cases
