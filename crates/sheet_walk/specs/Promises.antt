-- What the theorems of proofs/Promises.antt say of the walk.
-- Assumes nothing.
use Rattle.std.specs.Prelude.{◌≡◌, ◌↔◌, true, false, List, [], ◌∷◌, ℕ, zero, suc, ◌+◌, ◌*◌, ◌<◌, ◌≤◌, length, get_or, All}
use Rattle.settings.specs.declared.SettingItem.{SettingItem}
use Rattle.settings.specs.declared.SettingItem.TheVariants.{SP, SS, S}
use Rattle.settings.specs.declared.SignSetting.{SignSetting}
use Rattle.settings.specs.declared.SignSetting.TheVariants.{AfterSS, AfterSP}
use Rattle.format_items.specs.Items.{Field}
use Rattle.format_items.specs.Met.{Met}
use Rattle.format_items.specs.MetRanges.{AllMetWithin}
use Rattle.list_elements.specs.Elements.{Kind, integer}
use Rattle.sheet_walk.specs.Refusals.{refusal_place}
use Rattle.sheet_walk.specs.Steps.{widest_record, width_right, Records, What, element, literal, Placement, suits, field_width, moves, covers, refused, ends, start, step, has_field, end_step}
use Rattle.sheet_walk.specs.Walk.{Sheet, Trace, put, done, stopped, return, at_end, walk}
use Rattle.sheet_walk.specs.Columns.{In, CoveredTwice, covered_twice}
use Rattle.sheet_walk.specs.Laid.{laid, columns}
use Rattle.sheet_walk.specs.declared.Refusal.{Refusal}
use Rattle.sheet_walk.specs.declared.Refusal.TheVariants as refusal
use Rattle.sheet_walk.specs.declared.State.{State}

-- ---- 'The record width R is 1 to 255'

pub record WidthRight (R : ℕ) : Type 0 where
  pub from : 1 ≤ R
  pub to : R ≤ widest_record

-- the test for it is met exactly there
abbrev pub WidthRightIs : Type 0
WidthRightIs = (R : ℕ) → (width_right R ≡ true) ↔ WidthRight R

-- ---- the walk is total

-- at the end of the format the walk ends, is refused, or goes on with the part to return to, and at the end of that part in
-- the same way, however many returns there are
abbrev pub EndIs : Type 0
EndIs = (h : Sheet) (s : State) → at_end h s ≡ return h (at_end h) s

-- each return takes at least one element before the part's end, unless the walk ends or is refused before it: what follows
-- the part's end matters only where more elements are taken
abbrev pub ReturnTakes : Type 0
ReturnTakes =
    (h : Sheet) (s : State) (next other : State → Trace) → ((n : State) → s.taken < n.taken → next n ≡ other n) → return h next s ≡ return h other s

-- ---- what is refused, in the order of the checks: 'At one field the order is 7, 8'; 'at a return, 10 before 9'

-- why an item met at s is refused
pub data ItemRefused (kinds : List Kind) (rs : Records) (s : State) : Met → Refusal → Type 0 where
  wrong_kind : {f : Field ℕ} → s.taken < length kinds → suits f (get_or kinds s.taken integer) ≡ false → ItemRefused kinds rs s (Met.field f) (refusal.Kind s.taken)
  field_columns_lem : {f : Field ℕ} → s.taken < length kinds → suits f (get_or kinds s.taken integer) ≡ true
      → rs.width + 1 < s.column + field_width f (get_or kinds s.taken integer) → ItemRefused kinds rs s (Met.field f) (refusal.Column s.taken)
  literal_columns : {cs : List ℕ} → rs.width + 1 < s.column + length cs → ItemRefused kinds rs s (Met.literal cs) (refusal.Column s.taken)
  X-column : {n : ℕ} → rs.width + 1 < s.column + n → ItemRefused kinds rs s (Met.X n) (refusal.Column s.taken)
  T-column : {n : ℕ} → rs.width < n → ItemRefused kinds rs s (Met.T n) (refusal.Column s.taken)
  slash_record : rs.count ≤ s.row + 1 → ItemRefused kinds rs s Met.slash (refusal.NextRecord s.taken)

-- an item met is refused exactly for these reasons
abbrev pub ItemRefusedIs : Type 0
ItemRefusedIs = (kinds : List Kind) (rs : Records) (x : Met) (s : State) (why : Refusal) → (step kinds rs x s ≡ refused why) ↔ ItemRefused kinds rs s x why

-- why the walk is refused at the end of the format
pub data EndRefused (kinds : List Kind) (rs : Records) (part : List Met) (s : State) : Refusal → Type 0 where
  no_field : s.taken < length kinds → has_field part ≡ false → EndRefused kinds rs part s (refusal.NoField s.taken)
  no_record : s.taken < length kinds → has_field part ≡ true → rs.count ≤ s.row + 1 → EndRefused kinds rs part s (refusal.NextRecord s.taken)

-- and the end of the format exactly for these
abbrev pub EndRefusedIs : Type 0
EndRefusedIs =
    (kinds : List Kind) (rs : Records) (part : List Met) (s : State) (why : Refusal) → (end_step kinds rs part s ≡ refused why) ↔ EndRefused kinds rs part s why

-- ---- what is covered

-- a sheet whose items have their numbers within their ranges, as those of an accepted format (`MetInRange` of
-- `format_grammar`), and with a record
pub record Walkable (h : Sheet) : Type 0 where
  pub items_within : AllMetWithin h.items
  pub part_within : AllMetWithin h.part
  pub some_record : 0 < h.records.count

-- the walk ends with n records reached
pub data EndsWith (n : ℕ) : Trace → Type 0 where
  here : EndsWith n (done n)
  there : {p : Placement} {t : Trace} → EndsWith n t → EndsWith n (put p t)

-- a placement lies in one of n records that are R wide: 'A covered column is at most R'
pub record Inside (R n : ℕ) (p : Placement) : Type 0 where
  pub in-record : p.row < n
  pub from : 1 ≤ p.column
  pub to : p.column + p.width ≤ R + 1

-- every placement lies in the records, and in those reached where the walk ends
abbrev pub CoversInside : Type 0
CoversInside = (h : Sheet) → Walkable h → (p : Placement) → In p (walk h) → Inside h.records.width h.records.count p

abbrev pub CoversReached : Type 0
CoversReached =
    (h : Sheet) → Walkable h → (n : ℕ) → EndsWith n (walk h) → (n ≤ h.records.count) × ((p : Placement) → In p (walk h) → Inside h.records.width n p)

-- an element under a field: there is such an element, its kind suits the field, and the width is the field's for this kind
pub record Suited (kinds : List Kind) (i : ℕ) (f : Field ℕ) (w : ℕ) : Type 0 where
  pub known : i < length kinds
  pub suited : suits f (get_or kinds i integer) ≡ true
  pub wide : w ≡ field_width f (get_or kinds i integer)

abbrev pub ElementsSuited : Type 0
ElementsSuited =
    (h : Sheet) (p : Placement) → In p (walk h) → (i : ℕ) (f : Field ℕ) → p.what ≡ element i f → Suited h.kinds i f p.width

-- the places of the elements that are put, in order
abbrev pub place_of : What → List ℕ → List ℕ
place_of (element i f) is = i ∷ is
place_of (literal cs) is = is

unfoldable pub elements_put : Trace → List ℕ
elements_put (put p t) = place_of p.what (elements_put t)
elements_put (done n) = []
elements_put (stopped why) = []

-- the n numbers from i on
unfoldable pub numbers_from : ℕ → ℕ → List ℕ
numbers_from i zero = []
numbers_from i (suc n) = i ∷ numbers_from (i + 1) n

-- a walk that ends puts every element of the list once, in order
abbrev pub PutsEach : Type 0
PutsEach = (h : Sheet) (n : ℕ) → EndsWith n (walk h) → elements_put (walk h) ≡ numbers_from 0 (length h.kinds)

-- a literal covers as many columns as it has characters
abbrev pub LiteralsWide : Type 0
LiteralsWide = (h : Sheet) (p : Placement) → In p (walk h) → (cs : List ℕ) → p.what ≡ literal cs → p.width ≡ length cs

-- the walk does not depend on the records beyond those that it reaches
abbrev pub RecordsBeyond : Type 0
RecordsBeyond =
    (h : Sheet) (n m : ℕ) → EndsWith n (walk h) → n ≤ m
    → walk (record { items = h.items; part = h.part; kinds = h.kinds; records = record { width = h.records.width; count = m } }) ≡ walk h

-- the walk is refused
pub data StopsWith (why : Refusal) : Trace → Type 0 where
  here : StopsWith why (stopped why)
  there : {p : Placement} {t : Trace} → StopsWith why t → StopsWith why (put p t)

-- the walk comes to the state s, with the items xs still to be met before the end of the format
pub data Comes (h : Sheet) : List Met → State → Type 0 where
  begins : Comes h h.items start
  moved : {x : Met} {xs : List Met} {s n : State} → Comes h (x ∷ xs) s → step h.kinds h.records x s ≡ moves n → Comes h xs n
  covered : {x : Met} {xs : List Met} {s n : State} {p : Placement} → Comes h (x ∷ xs) s → step h.kinds h.records x s ≡ covers p n → Comes h xs n
  returned : {s n : State} → Comes h [] s → end_step h.kinds h.records h.part s ≡ moves n → Comes h h.part n

-- the walk comes to s, where the next item, or the end of the format, is refused
pub data RefusedThere (h : Sheet) (s : State) (why : Refusal) : Type 0 where
  at_item : {x : Met} {xs : List Met} → Comes h (x ∷ xs) s → ItemRefused h.kinds h.records s x why → RefusedThere h s why
  at_end_lem : Comes h [] s → EndRefused h.kinds h.records h.part s why → RefusedThere h s why

-- a refused walk comes to such a state, where so many elements were taken as are put before, which is the refusal's place
abbrev pub RefusedBecause : Type 0
RefusedBecause =
    (h : Sheet) (why : Refusal) → StopsWith why (walk h) → (s : State) × RefusedThere h s why
    × (s.taken ≡ length (elements_put (walk h)))
    × (refusal_place why ≡ s.taken)

-- and a walk that comes to such a state is refused, for that reason
abbrev pub RefusedOnlyThere : Type 0
RefusedOnlyThere = (h : Sheet) (s : State) (why : Refusal) → RefusedThere h s why → StopsWith why (walk h)

-- the walk comes to s, where the next item, or the end of the format, ends it
pub data EndsThere (h : Sheet) (s : State) : Type 0 where
  at_item : {x : Met} {xs : List Met} → Comes h (x ∷ xs) s → step h.kinds h.records x s ≡ ends → EndsThere h s
  at_end_lem : Comes h [] s → end_step h.kinds h.records h.part s ≡ ends → EndsThere h s

-- the walk ends with n records exactly where it comes to such a state, in the last of n records
abbrev pub EndsExactly : Type 0
EndsExactly = (h : Sheet) (n : ℕ) → EndsWith n (walk h) ↔ ((s : State) × EndsThere h s × (n ≡ s.row + 1))

-- the walk comes to an item that covers p
pub data CoversThere (h : Sheet) (p : Placement) : Type 0 where
  at_item : {x : Met} {xs : List Met} {s n : State} → Comes h (x ∷ xs) s → step h.kinds h.records x s ≡ covers p n → CoversThere h p

-- a placement is one of the walk's exactly where the walk comes to an item that covers it
abbrev pub CoversExactly : Type 0
CoversExactly = (h : Sheet) (p : Placement) → In p (walk h) ↔ CoversThere h p

-- ---- which setting holds: 'After SP ..; after SS or S the rule above holds. The walk carries the setting, starts with SS, and a return to
-- a group doesn't reset it.'

-- the walk comes to the state s, with the items xs still to be met; ks are the items SP, SS and S that were met before, the last one
-- first, returns included
pub data ComesAfter (h : Sheet) : (ks : List SettingItem) → List Met → State → Type 0 where
  begins : ComesAfter h [] h.items start
  sets : {ks : List SettingItem} {k : SettingItem} {xs : List Met} {s n : State} → ComesAfter h ks (Met.setting k ∷ xs) s
      → step h.kinds h.records (Met.setting k) s ≡ moves n → ComesAfter h (k ∷ ks) xs n
  moved : {ks : List SettingItem} {x : Met} {xs : List Met} {s n : State} → ((k : SettingItem) → x ≡ Met.setting k → ⊥) → ComesAfter h ks (x ∷ xs) s
      → step h.kinds h.records x s ≡ moves n → ComesAfter h ks xs n
  covered : {ks : List SettingItem} {x : Met} {xs : List Met} {s n : State} {p : Placement} → ComesAfter h ks (x ∷ xs) s
      → step h.kinds h.records x s ≡ covers p n → ComesAfter h ks xs n
  returned : {ks : List SettingItem} {s n : State} → ComesAfter h ks [] s → end_step h.kinds h.records h.part s ≡ moves n → ComesAfter h ks h.part n

-- an item that covers p is met after them
pub data CoversAfter (h : Sheet) (ks : List SettingItem) (p : Placement) : Type 0 where
  at_item : {x : Met} {xs : List Met} {s n : State} → ComesAfter h ks (x ∷ xs) s → step h.kinds h.records x s ≡ covers p n → CoversAfter h ks p

-- the setting after them: after none as after SS. (In the rules' words, and not by `set_by`, which the walk's definition uses.)
abbrev pub setting_of : List SettingItem → SignSetting
setting_of [] = AfterSS
setting_of (SP ∷ ks) = AfterSP
setting_of (SS ∷ ks) = AfterSS
setting_of (S ∷ ks) = AfterSS

-- what a placement carries is the setting after the items that were met before it; and each placement is met after some
abbrev pub SettingCarried : Type 0
SettingCarried =
    (h : Sheet) (p : Placement) → ((ks : List SettingItem) → CoversAfter h ks p → p.settings.signs ≡ setting_of ks)
    × (In p (walk h) → (ks : List SettingItem) × CoversAfter h ks p)

-- no SP is among items
abbrev pub IsNoSP : Met → Type 0
IsNoSP x = x ≡ Met.setting SP → ⊥

abbrev pub NoSP : List Met → Type 0
NoSP xs = All IsNoSP xs

-- a walk that meets no SP is as after SS throughout
abbrev pub AfterSSThroughout : Type 0
AfterSSThroughout = (h : Sheet) → NoSP h.items → NoSP h.part → (p : Placement) → In p (walk h) → p.settings.signs ≡ AfterSS

-- ---- columns covered twice

-- the test for a column covered twice is met exactly where some column is
abbrev pub CoveredTwiceIs : Type 0
CoveredTwiceIs = (t : Trace) → (covered_twice t ≡ true) ↔ ((r : ℕ) × (c : ℕ) × CoveredTwice r c t)

-- where no column is covered twice, the bytes in a placement's columns are its characters: for a buffer that holds n records
-- and characters as many as the columns
abbrev pub ColumnsKept : Type 0
ColumnsKept =
    (R n : ℕ) (characters : Placement → List ℕ) (t : Trace) (buffer : List ℕ) → covered_twice t ≡ false → n * R ≤ length buffer
    → ((p : Placement) → In p t → Inside R n p × (length (characters p) ≡ p.width))
    → (p : Placement) → In p t → columns R p (laid R characters t buffer) ≡ characters p
