-- The setting that the walk carries.
-- Assumes nothing.
use mathlib.Core.Path.{◌≡◌, refl, ap, ◌∙◌, subst}
use mathlib.Core.List.{List, [], ◌∷◌}
use Rattle.std.proofs.lemmas.List.Elements.{All-head, All-tail}
use Rattle.settings.specs.Settings.{setting_after}
use Rattle.settings.specs.declared.SettingItem.{SettingItem}
use Rattle.settings.specs.declared.SettingItem.TheVariants.{SP, SS, S}
use Rattle.settings.specs.declared.SignSetting.TheVariants.{AfterSS}
use Rattle.format_items.specs.Met.{Met}
use Rattle.sheet_walk.specs.declared.State.{State}
use Rattle.sheet_walk.specs.Steps.{Placement, moves, covers, step}
use Rattle.sheet_walk.specs.Walk.{Sheet}
use Rattle.sheet_walk.specs.Promises.{Comes, CoversThere, ComesAfter, CoversAfter, setting_of, SettingCarried, IsNoSP, NoSP, AfterSSThroughout}
use Rattle.sheet_walk.proofs.StepLaws.{Moved, Covered, Does, step_does, AtEnd, end_does, settings_on}
use Rattle.sheet_walk.proofs.Coming.{covers_exactly}

-- what an item SP, SS or S sets, in the rules' words
set_is : (k : SettingItem) (ks : List SettingItem) → setting_after k ≡ setting_of (k ∷ ks)
set_is SP ks = refl
set_is SS ks = refl
set_is S ks = refl

-- any other item keeps the settings
other_keeps : (x : Met) (s n : State) → ((k : SettingItem) → x ≡ Met.setting k → ⊥) → n.settings ≡ settings_on x s.settings → n.settings ≡ s.settings
other_keeps (Met.field f) s n none g = g
other_keeps (Met.X m) s n none g = g
other_keeps (Met.T m) s n none g = g
other_keeps Met.slash s n none g = g
other_keeps (Met.literal cs) s n none g = g
other_keeps (Met.setting k) s n none g = absurd (none k refl)

module _ (h : Sheet) where
  -- what a step does, where it is known to move the walk, or to cover columns
  step_moved : (x : Met) (s n : State) → step h.kinds h.records x s ≡ moves n → Moved h.records x s n
  step_moved x s n e = (subst (Does h.kinds h.records x s) e (step_does h.kinds h.records s x)).0

  step_covered : (x : Met) (s n : State) (p : Placement) → step h.kinds h.records x s ≡ covers p n → Covered h.kinds h.records x s p n
  step_covered x s n p e = subst (Does h.kinds h.records x s) e (step_does h.kinds h.records s x)

  -- one that covers columns keeps the settings
  covered_keeps : (x : Met) (s n : State) (p : Placement) → step h.kinds h.records x s ≡ covers p n → n.settings ≡ s.settings
  unfolding step
  covered_keeps x s n p e = go x e (step_covered x s n p e).moved.settings
    where
      go : (x : Met) → step h.kinds h.records x s ≡ covers p n → n.settings ≡ settings_on x s.settings → n.settings ≡ s.settings
      go (Met.field f) q g = g
      go (Met.X m) q g = g
      go (Met.T m) q g = g
      go Met.slash q g = g
      go (Met.literal cs) q g = g
      go (Met.setting k) q g = let z : ⊥ = cc in absurd z

  -- where the walk comes to, it carries the setting after the items that were met
  carries : {ks : List SettingItem} {xs : List Met} {s : State} → ComesAfter h ks xs s → s.settings.signs ≡ setting_of ks
  carries ComesAfter.begins = refl
  carries (ComesAfter.sets {ks} {k} {s} {n} c e) = ap (λ y. y.signs) (step_moved (Met.setting k) s n e).settings ∙ set_is k ks
  carries (ComesAfter.moved {x} {s} {n} none c e) = ap (λ y. y.signs) (other_keeps x s n none (step_moved x s n e).settings) ∙ carries c
  carries (ComesAfter.covered {x} {s} {n} {p} c e) = ap (λ y. y.signs) (covered_keeps x s n p e) ∙ carries c
  carries (ComesAfter.returned {s} {n} c e) =
      let d = subst (AtEnd h.kinds h.records s h.part) e (end_does h.kinds h.records s h.part) in
      ap (λ y. y.signs) d.0.settings ∙ carries c

  -- and it comes there after some
  comes_after : {xs : List Met} {s : State} → Comes h xs s → (ks : List SettingItem) × ComesAfter h ks xs s
  comes_after Comes.begins = ([], ComesAfter.begins)
  comes_after (Comes.moved {x} {xs} {s} {n} c e) = go x e (comes_after c)
    where
      go : (x : Met) → step h.kinds h.records x s ≡ moves n → (ks : List SettingItem) × ComesAfter h ks (x ∷ xs) s → (ks : List SettingItem) × ComesAfter h ks xs n
      go (Met.field f) q a = (a.0, ComesAfter.moved (λ k (y : Met.field f ≡ Met.setting k). let z : ⊥ = cc in z) a.1 q)
      go (Met.X m) q a = (a.0, ComesAfter.moved (λ k (y : Met.X m ≡ Met.setting k). let z : ⊥ = cc in z) a.1 q)
      go (Met.T m) q a = (a.0, ComesAfter.moved (λ k (y : Met.T m ≡ Met.setting k). let z : ⊥ = cc in z) a.1 q)
      go Met.slash q a = (a.0, ComesAfter.moved (λ k (y : Met.slash ≡ Met.setting k). let z : ⊥ = cc in z) a.1 q)
      go (Met.literal cs) q a = (a.0, ComesAfter.moved (λ k (y : Met.literal cs ≡ Met.setting k). let z : ⊥ = cc in z) a.1 q)
      go (Met.setting k) q a = (k ∷ a.0, ComesAfter.sets a.1 q)
  comes_after (Comes.covered c e) = let a = comes_after c in (a.0, ComesAfter.covered a.1 e)
  comes_after (Comes.returned c e) = let a = comes_after c in (a.0, ComesAfter.returned a.1 e)

pub setting_carried : SettingCarried
setting_carried h p = (always, λ i. some ((covers_exactly h p).0 i))
  where
    always : (ks : List SettingItem) → CoversAfter h ks p → p.settings.signs ≡ setting_of ks
    always ks (CoversAfter.at_item {x} {s} {n} c e) = ap (λ y. y.signs) (step_covered h x s n p e).settings ∙ carries h c

    some : CoversThere h p → (ks : List SettingItem) × CoversAfter h ks p
    some (CoversThere.at_item c e) = let a = comes_after h c in (a.0, CoversAfter.at_item a.1 e)

-- ---- where no SP is met

module _ (h : Sheet) (items : NoSP h.items) (part : NoSP h.part) where
  not_after_sp : {xs : List Met} {s : State} → Comes h xs s → NoSP xs × (s.settings.signs ≡ AfterSS)
  not_after_sp Comes.begins = (items, refl)
  not_after_sp (Comes.moved {x} {xs} {s} {n} c e) = let a = not_after_sp c in (All-tail IsNoSP x xs a.0, go x (All-head IsNoSP x xs a.0) (step_moved h x s n e).settings a.1)
    where
      go : (x : Met) → (x ≡ Met.setting SP → ⊥) → n.settings ≡ settings_on x s.settings → s.settings.signs ≡ AfterSS → n.settings.signs ≡ AfterSS
      go (Met.field f) u g a = ap (λ y. y.signs) g ∙ a
      go (Met.X m) u g a = ap (λ y. y.signs) g ∙ a
      go (Met.T m) u g a = ap (λ y. y.signs) g ∙ a
      go Met.slash u g a = ap (λ y. y.signs) g ∙ a
      go (Met.literal cs) u g a = ap (λ y. y.signs) g ∙ a
      go (Met.setting SP) u g a = absurd (u refl)
      go (Met.setting SS) u g a = ap (λ y. y.signs) g
      go (Met.setting S) u g a = ap (λ y. y.signs) g
  not_after_sp (Comes.covered {x} {xs} {s} {n} {p} c e) = let a = not_after_sp c in (All-tail IsNoSP x xs a.0, ap (λ y. y.signs) (covered_keeps h x s n p e) ∙ a.1)
  not_after_sp (Comes.returned {s} {n} c e) =
      let d = subst (AtEnd h.kinds h.records s h.part) e (end_does h.kinds h.records s h.part) in
      (part, ap (λ y. y.signs) d.0.settings ∙ (not_after_sp c).1)

pub after_ss_throughout : AfterSSThroughout
after_ss_throughout h items part p i = go ((covers_exactly h p).0 i)
  where
    go : CoversThere h p → p.settings.signs ≡ AfterSS
    go (CoversThere.at_item {x} {s} {n} c e) = ap (λ y. y.signs) (step_covered h x s n p e).settings ∙ (not_after_sp h items part c).1
