-- Reading ignores the setting that the walk carries.
-- Assumes nothing.
use Rattle.std.proofs.Common.{◌≡◌, refl, Bool, true, false, cond, List, [], ◌∷◌, map, ℕ, zero, suc, ◌+◌, length, drop}
use lib.Dec.{leb, ltb}
use Rattle.settings.specs.Settings.{set_by, start_settings}
use Rattle.settings.specs.declared.SettingItem.TheVariants.{SS}
use Rattle.settings.specs.declared.Settings.{Settings}
use Rattle.format_items.specs.Items.{Field}
use Rattle.format_items.specs.Met.{Met}
use Rattle.list_elements.specs.Elements.{Kind}
use Rattle.sheet_walk.specs.Steps.{What, element, literal, Step, moves, covers, refused, ends, with_settings, to_column, to_next_record, start, suits, field_width, cover_step, field_step, next_record, step, is_field, has_field, end_step}
use Rattle.sheet_walk.specs.Walk.{Sheet, Trace, after, pass, returns, at_end, walk}
use Rattle.sheet_walk.specs.declared.Refusal.{Refusal}
use Rattle.sheet_walk.specs.declared.Refusal.TheVariants as refusal
use Rattle.sheet_walk.specs.declared.State.{State}
use Rattle.read_passes.specs.Given.{Gathered, gathered}
use Rattle.read_passes.specs.Promises.{unset, unset_sheet, SettingIgnored}

-- ---- the same items are fields

is_field_unset : (x : Met) → is_field (unset x) ≡ is_field x
is_field_unset (Met.field f) = refl
is_field_unset (Met.X n) = refl
is_field_unset (Met.T n) = refl
is_field_unset Met.slash = refl
is_field_unset (Met.literal cs) = refl
is_field_unset (Met.setting k) = refl

has_field_unset : (xs : List Met) → has_field (map unset xs) ≡ has_field xs
unfolding has_field
has_field_unset [] = refl
has_field_unset (x ∷ xs) = rw (is_field_unset x, has_field_unset xs) refl

-- ---- the walk under such items is read alike

module _ (h : Sheet) (R : ℕ) (bytes : List ℕ) where
  -- what is gathered on a walk
  abbrev reads : Trace → Gathered
  reads t = gathered R h.kinds bytes t

  -- two ways on that are read alike, whatever settings the first has
  abbrev Alike : (State → Trace) → (State → Trace) → Type 0
  Alike f g = (s : State) (e : Settings) → reads (f (with_settings s e)) ≡ reads (g s)

  module _ (f g : State → Trace) (alike : Alike f g) (s : State) (e : Settings) where
    -- two steps, from s under the settings e and from s, are read alike with what follows
    abbrev Same : Step → Step → Type 0
    Same a b = reads (after a (with_settings s e) f) ≡ reads (after b s g)

    -- covers w columns from s on under the settings k, and goes on at n
    abbrev covered : What → ℕ → Settings → State → Step
    covered what w k n = covers (record { what = what; row = s.row; column = s.column; width = w; settings = k }) n

    -- what a field gives does not depend on the placement's settings
    covered_same : (what : What) (w : ℕ) (n : State) → Same (covered what w e (with_settings n e)) (covered what w s.settings n)
    unfolding gathered
    covered_same (element i y) w n = rw (alike n e) refl
    covered_same (literal cs) w n = alike n e

    cover_same : (what : What) (w taken : ℕ) → Same (cover_step h.records (with_settings s e) what w taken) (cover_step h.records s what w taken)
    cover_same what w taken = go (leb (s.column + w) (h.records.width + 1))
      where
        to : State
        to = to_column s (s.column + w) taken

        no : Step
        no = refused (refusal.Column s.taken)

        go : (b : Bool) → Same (cond b (covered what w e (with_settings to e)) no) (cond b (covered what w s.settings to) no)
        go true = covered_same what w to
        go false = refl

    -- where a test decides between a move and a refusal
    move_same : (b : Bool) (n : State) (why : Refusal) → Same (cond b (moves (with_settings n e)) (refused why)) (cond b (moves n) (refused why))
    move_same true n why = alike n e
    move_same false n why = refl

    field_same : (y : Field ℕ) (ks : List Kind) → Same (field_step h.records (with_settings s e) y ks) (field_step h.records s y ks)
    field_same y [] = refl
    field_same y (k ∷ ks) = go (suits y k)
      where
        by : Bool → State → Step
        by b n = cond b (cover_step h.records n (element s.taken y) (field_width y k) (s.taken + 1)) (refused (refusal.Kind s.taken))

        go : (b : Bool) → Same (by b (with_settings s e)) (by b s)
        go true = cover_same (element s.taken y) (field_width y k) (s.taken + 1)
        go false = refl

    next_same : Same (next_record h.records (with_settings s e)) (next_record h.records s)
    next_same = move_same (ltb (s.row + 1) h.records.count) (to_next_record s) (refusal.NextRecord s.taken)

    item_same : (x : Met) → Same (step h.kinds h.records (unset x) (with_settings s e)) (step h.kinds h.records x s)
    unfolding step
    item_same (Met.field y) = field_same y (drop s.taken h.kinds)
    item_same (Met.X n) = move_same (leb (s.column + n) (h.records.width + 1)) (to_column s (s.column + n) s.taken) (refusal.Column s.taken)
    item_same (Met.T n) = move_same (leb n h.records.width) (to_column s n s.taken) (refusal.Column s.taken)
    item_same Met.slash = next_same
    item_same (Met.literal cs) = cover_same (literal cs) (length cs) s.taken
    item_same (Met.setting k) = alike (with_settings s (set_by k s.settings)) (set_by SS e)

    end_same : Same (end_step h.kinds h.records (map unset h.part) (with_settings s e)) (end_step h.kinds h.records h.part s)
    unfolding end_step
    end_same = rw (has_field_unset h.part) (go (leb (length h.kinds) s.taken) (has_field h.part))
      where
        by : Bool → Bool → State → Step
        by b c n = cond b ends (cond c (next_record h.records n) (refused (refusal.NoField s.taken)))

        go : (b c : Bool) → Same (by b c (with_settings s e)) (by b c s)
        go true c = refl
        go false true = next_same
        go false false = refl

  pass_alike : (f g : State → Trace) → Alike f g → (xs : List Met) → Alike (pass (unset_sheet h) f (map unset xs)) (pass h g xs)
  unfolding pass
  pass_alike f g alike [] s e = alike s e
  pass_alike f g alike (x ∷ xs) s e = item_same (pass (unset_sheet h) f (map unset xs)) (pass h g xs) (pass_alike f g alike xs) s e x

  returns_alike : (k : ℕ) → Alike (returns (unset_sheet h) k) (returns h k)
  unfolding returns
  returns_alike zero s e = refl
  returns_alike (suc k) s e =
      end_same (pass (unset_sheet h) (returns (unset_sheet h) k) (map unset h.part)) (pass h (returns h k) h.part)
      (pass_alike (returns (unset_sheet h) k) (returns h k) (returns_alike k) h.part) s e

pub setting_ignored : SettingIgnored
unfolding walk at_end
setting_ignored h R bytes =
    pass_alike h R bytes (at_end (unset_sheet h)) (at_end h) (returns_alike h R bytes (length h.kinds)) h.items start start_settings
