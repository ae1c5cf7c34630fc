use Rattle.std.proofs.Common.{◌≡◌, refl, ◌∙◌, sym, ap, subst, ◌∷◌, ◌++◌, ℕ, ◌+◌, ◌-◌, ◌*◌, ◌≤◌, take, drop, length, arith}
use lib.ListN.{set, length-set}
use Rattle.std.proofs.lemmas.List.{take-set-le}
use Rattle.format_items.specs.Met.{repeat}
use Rattle.format_words.specs.Held.{Holds}
use Rattle.format_words.specs.declared.Entry.TheVariants as entry
use Rattle.format_run.specs.Runs.{SomeItemsFit}
use Rattle.format_run.proofs.Unrolling.{Unrolling, fits_group, fits_again, fits_levels, fits_item, unrolling_none, fits_left, unrolling_count, unrolling_words, unrolling_final, part_long, one_is, unrolling_item, unrolling_group}
use Rattle.format_run.proofs.unroll.+unroll.Goals as goal
use Rattle.format_run.proofs.unroll.+unroll.Goals.{In-Some, In-Item, In-Group, After-unroll-inner}

-- the entries left, and room for their words
left : (t : ℕ) (c : In-Some t) → (c.loop-entry.end ≤ length c.loop-entry.run) × SomeItemsFit c.loop-entry.rest.now c.args.level (length c.loop-entry.run - c.loop-entry.end)
left t c = fits_left c.loop-entry.invariant (subst (λ n. SomeItemsFit c.args.entries.now c.args.level n) (sym c.loop-entry.auto.run) c.requires)

item_is : (t : ℕ) (c : In-Item t) → c.loop-entry.rest.now ≡ entry.Item c.in-Item.repeat c.in-Item.word ∷ c.in-Some.tail.now
item_is t c = c.in-Some.ensures.cases.0 ∙ ap (λ e. e ∷ c.in-Some.tail.now) c.in-Item.is

group_is : (t : ℕ) (c : In-Group t) → c.loop-entry.rest.now ≡ entry.Group c.in-Group.entries c.in-Group.repeat ∷ c.in-Some.tail.now
group_is t c = c.in-Some.ensures.cases.0 ∙ ap (λ e. e ∷ c.in-Some.tail.now) c.in-Group.is

-- the group's words, again
again : (t : ℕ) (c : After-unroll-inner t) → SomeItemsFit c.loop-entry.rest.now c.args.level (length c.loop-entry.run - c.loop-entry.end)
    → c.loop-entry.rest.now ≡ entry.Group c.in-Group.entries c.in-Group.repeat ∷ c.in-Some.tail.now
    → (1 ≤ c.in-Group.repeat) × (c.in-Group.repeat * c.unroll-inner.result.end ≤ length c.loop-entry.run - c.loop-entry.end)
again t c f g =
    let e : take c.in-Group.entries c.in-Some.tail.now ≡ c.split_at.result.0.now = sym (c.split_at.ensures.front ∙ ap (λ n. take n c.in-Some.tail.now) c.from.ensures) in
    fits_again f g c.unroll-inner.result.end (λ u d ys h. c.unroll-inner.ensures.count u d ys (subst (λ es. Holds u d (c.args.level - 1) es ys) e h))

pub loop-entry-init : goal.loop-entry-init
loop-entry-init t c = unrolling_none

pub bounds-run-end : goal.bounds-run-end
bounds-run-end t c = let a = goal.at.bounds-run-end t c in let f = left t a.In-Some in omega (arith, f.0, fits_item f.1 (item_is t a.In-Item))

pub repeat_words-end-requires-clause-some : goal.repeat_words-end-requires-clause-some
repeat_words-end-requires-clause-some t c = let a = goal.at.repeat_words-end-requires-clause-some t c in (fits_item (left t a.In-Some).1 (item_is t a.In-Item)).0

pub repeat_words-end-requires-clause-room : goal.repeat_words-end-requires-clause-room
repeat_words-end-requires-clause-room t c =
    let a = goal.at.repeat_words-end-requires-clause-room t c in
    let f = fits_item (left t a.In-Some).1 (item_is t a.In-Item) in
    omega (arith, f.1, part_long (set c.loop-entry.run c.loop-entry.end c.in-Item.word) c.loop-entry.end, length-set c.loop-entry.run c.loop-entry.end c.in-Item.word)

pub loop-entry-preserved-in-Item : goal.loop-entry-preserved-in-Item
loop-entry-preserved-in-Item t c =
    let a = goal.at.loop-entry-preserved-in-Item t c in
    let f = left t a.In-Some in
    let g = fits_item f.1 (item_is t a.In-Item) in
    let run = c.loop-entry.run in
    let e = c.loop-entry.end in
    let w = c.in-Item.word in
    let p : length c.repeat_words-end.new.run ≡ length run - e = c.repeat_words-end.auto.run ∙ part_long (set run e w) e ∙ ap (λ (n : ℕ). n - e) (length-set run e w) in
    unrolling_item c.loop-entry.invariant f.0 (take-set-le e run e w (omega arith)) c.repeat_words-end.new.run _ c.repeat_words-end.result
    (omega (arith, c.repeat_words-end.ensures.count, g.1)) (item_is t a.In-Item)
    (omega (arith, c.repeat_words-end.ensures.count))
    (c.repeat_words-end.ensures.words ∙ ap (repeat c.in-Item.repeat) (one_is run e w (omega (arith, g))))

pub split_at-requires : goal.split_at-requires
split_at-requires t c =
    let a = goal.at.split_at-requires t c in
    let g = fits_levels (left t a.In-Some).1 (group_is t a.In-Group) in
    omega (arith, g.1, c.from.ensures)

pub overflow_sub-level : goal.overflow_sub-level
overflow_sub-level t c =
    let a = goal.at.overflow_sub-level t c in
    (fits_levels (left t a.In-Some).1 (group_is t a.In-Group)).0

pub unroll-inner-requires : goal.unroll-inner-requires
unroll-inner-requires t c =
    let a = goal.at.unroll-inner-requires t c in
    let f = (left t a.In-Some).1 in
    let e : take c.in-Group.entries c.in-Some.tail.now ≡ c.split_at.result.0.now = sym (c.split_at.ensures.front ∙ ap (λ n. take n c.in-Some.tail.now) c.from.ensures) in
    let r : SomeItemsFit c.split_at.result.0.now (c.args.level - 1) (length c.loop-entry.run - c.loop-entry.end) = subst (λ es. SomeItemsFit es (c.args.level - 1) (length c.loop-entry.run - c.loop-entry.end)) e (fits_group f (group_is t a.In-Group)) in
    (omega (arith, (fits_levels f (group_is t a.In-Group)).0), subst (λ (n : ℕ). SomeItemsFit c.split_at.result.0.now (c.args.level - 1) n) (sym (part_long c.loop-entry.run c.loop-entry.end)) r)

pub repeat_words-end-requires-in-Group-clause-some : goal.repeat_words-end-requires-in-Group-clause-some
repeat_words-end-requires-in-Group-clause-some t c =
    let a = goal.at.repeat_words-end-requires-in-Group-clause-some t c in
    (again t a.After-unroll-inner (left t a.In-Some).1 (group_is t a.In-Group)).0

pub repeat_words-end-requires-in-Group-clause-room : goal.repeat_words-end-requires-in-Group-clause-room
repeat_words-end-requires-in-Group-clause-room t c =
    let a = goal.at.repeat_words-end-requires-in-Group-clause-room t c in
    omega (arith, (again t a.After-unroll-inner (left t a.In-Some).1 (group_is t a.In-Group)).1, c.unroll-inner.auto.run, part_long c.loop-entry.run c.loop-entry.end)

pub overflow_add-end-in-Group : goal.overflow_add-end-in-Group
overflow_add-end-in-Group t c =
    let a = goal.at.overflow_add-end-in-Group t c in
    omega (arith, (left t a.In-Some).0, (again t a.After-unroll-inner (left t a.In-Some).1 (group_is t a.In-Group)).1, c.repeat_words-end-in-Group.ensures.count)

pub loop-entry-preserved : goal.loop-entry-preserved
loop-entry-preserved t c =
    let a = goal.at.loop-entry-preserved t c in
    let f = left t a.In-Some in
    let g = again t a.After-unroll-inner f.1 (group_is t a.In-Group) in
    let run = c.loop-entry.run in
    let e = c.loop-entry.end in
    let n : take c.in-Group.entries c.in-Some.tail.now ≡ c.split_at.result.0.now = sym (c.split_at.ensures.front ∙ ap (λ n. take n c.in-Some.tail.now) c.from.ensures) in
    let p : length c.repeat_words-end-in-Group.new.run ≡ length run - e = c.repeat_words-end-in-Group.auto.run ∙ c.unroll-inner.auto.run ∙ part_long run e in
    let u = unrolling_group c.loop-entry.invariant f.0 refl c.repeat_words-end-in-Group.new.run (drop (length run - e) (drop e run)) c.repeat_words-end-in-Group.result
    (omega (arith, c.repeat_words-end-in-Group.ensures.count, g.1))
    (take c.unroll-inner.result.end c.unroll-inner.new.run) (group_is t a.In-Group)
    (λ u d ys h. c.unroll-inner.ensures.count u d ys (subst (λ es. Holds u d (c.args.level - 1) es ys) n h))
    (λ u d ys h. c.unroll-inner.ensures.words u d ys (subst (λ es. Holds u d (c.args.level - 1) es ys) n h))
    c.repeat_words-end-in-Group.ensures.count c.repeat_words-end-in-Group.ensures.words in
    subst (λ es. Unrolling c.args.entries.now c.args.level (take e run ++ (c.repeat_words-end-in-Group.new.run ++ drop (length run - e) (drop e run))) (e + c.repeat_words-end-in-Group.result) e es)
    (sym (c.split_at.ensures.back ∙ ap (λ n. drop n c.in-Some.tail.now) c.from.ensures)) u

pub returns-clause-count : goal.returns-clause-count
returns-clause-count t c = unrolling_count c.loop-entry.invariant c.in_default.ensures.cases

pub returns-clause-words : goal.returns-clause-words
returns-clause-words t c = unrolling_words c.loop-entry.invariant c.in_default.ensures.cases

pub returns-clause-returns : goal.returns-clause-returns
returns-clause-returns t c = unrolling_final c.loop-entry.invariant c.in_default.ensures.cases
