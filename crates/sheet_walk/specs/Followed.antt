-- The walk as the code follows it. (Nothing here need be believed: no public call's contract speaks of it.)
-- Assumes nothing.
use Rattle.std.specs.Prelude.{◌≡◌, List, [], ◌∷◌, ℕ, ◌+◌, ◌-◌, ◌*◌, ◌<◌, ◌≤◌, Result, Ok, Err, length, take, drop}
use Rattle.sheet_walk.specs.Steps as steps
use Rattle.sheet_walk.specs.Walk.{Sheet, Trace, put, done, stopped, pass, at_end}
use Rattle.format_items.specs.Items.{Field}
use Rattle.format_items.specs.Met.{Met}
use Rattle.format_words.specs.Packing.{columns_in}
use Rattle.sheet_walk.specs.Given.{given_sheet, KeepsField, Keeps, takes, fields_of}
use Rattle.sheet_walk.specs.Laid.{offset_of}
use Rattle.sheet_walk.specs.declared.Refusal.{Refusal}
use Rattle.sheet_walk.specs.declared.records.Records as code
use Rattle.sheet_walk.specs.declared.Cover.{Cover}
use Rattle.sheet_walk.specs.declared.walk.Turn.{Turn}
use Rattle.sheet_walk.specs.declared.walk.Turn.TheVariants as turn
use Rattle.sheet_walk.specs.declared.placing.Placed.{Placed}
use Rattle.sheet_walk.specs.declared.placing.Stop.{Stop}
use Rattle.sheet_walk.specs.declared.placing.Stop.TheVariants as stop
use Rattle.format_words.specs.declared.run.Run.{Run}
use Rattle.list_elements.specs.declared.Element.{Element}
use Rattle.sheet_walk.specs.declared.State.{State}
use Rattle.sheet_walk.specs.declared.walk.Walk.{Walk}
use Rattle.sheet_walk.specs.Steps.{widest_record}

-- what a walk goes by
abbrev pub sheet_of : Walk → Sheet
sheet_of w = given_sheet w.run w.elements.now w.records

-- what is left of it
abbrev pub left_of : Walk → Trace
left_of w = pass (sheet_of w) (at_end (sheet_of w)) (drop w.index (sheet_of w).items) w.state

-- it goes by this run, these elements and these records
pub record GoesBy (w : Walk) (r : Run) (es : List Element) (rs : code.Records) : Type 0 where
  pub run : w.run ≡ r
  pub elements : w.elements.now ≡ es
  pub records : w.records ≡ rs

-- it goes by the same
pub record SameSheet (w v : Walk) : Type 0 where
  pub run : v.run ≡ w.run
  pub elements : v.elements ≡ w.elements
  pub records : v.records ≡ w.records

-- a step that moves the walk, or is refused, as the code answers it
abbrev pub MovesAs : steps.Step → Result Unit Refusal → State → Type 0
MovesAs (steps.moves n) r s = (r ≡ Ok tt) × (s ≡ n)
MovesAs (steps.covers p n) r s = ⊥
MovesAs (steps.refused why) r s = r ≡ Err why
MovesAs steps.ends r s = ⊥

-- a step that covers columns, or is refused, as the code answers it: where the first one stands
abbrev pub CoversAs : steps.Records → steps.Step → Result ℕ Refusal → State → Type 0
CoversAs rs (steps.moves n) r s = ⊥
CoversAs rs (steps.covers p n) r s = (r ≡ Ok (offset_of rs.width p)) × (s ≡ n)
CoversAs rs (steps.refused why) r s = r ≡ Err why
CoversAs rs steps.ends r s = ⊥

-- the columns of a placement, as the code keeps them for the field f
pub record FieldCover (R : ℕ) (f : Field ℕ) (p : steps.Placement) (c : Cover) : Type 0 where
  pub at : c.at ≡ offset_of R p
  pub settings : c.settings ≡ p.settings
  pub keeps : KeepsField c.word p.width f

-- a step of the field f at s, as the code answers it: it covers columns, is refused, or ends the walk
abbrev pub AnswersAs : steps.Records → Field ℕ → State → steps.Step → Result Turn Refusal → State → Type 0
AnswersAs rs f s (steps.moves n) r v = ⊥
AnswersAs rs f s (steps.covers p n) r v = (c : Cover) × (r ≡ Ok (turn.Covers c)) × FieldCover rs.width f p c × (v ≡ n)
AnswersAs rs f s (steps.refused why) r v = r ≡ Err why
AnswersAs rs f s steps.ends r v = (r ≡ Ok turn.Ends) × (v ≡ s)

-- the columns of a placement, where element i is the next one; t has the characters of literals
pub record CoverIs (h : Sheet) (t : List ℕ) (i : ℕ) (c : Cover) (p : steps.Placement) : Type 0 where
  pub at : c.at ≡ offset_of h.records.width p
  pub width : columns_in c.word ≡ p.width
  pub settings : c.settings ≡ p.settings
  pub what : Keeps t h.kinds i p.width c.word p.what
  pub room : c.at + columns_in c.word ≤ h.records.count * h.records.width
  pub few : columns_in c.word ≤ widest_record

-- ---- one turn of the walk

-- the elements that some items take
unfoldable pub fields_in : List Met → ℕ
fields_in [] = 0
fields_in (x ∷ xs) = fields_of x + fields_in xs

-- the most turns still to come: each return takes an element at least
abbrev pub turns_left : Sheet → ℕ → State → ℕ
turns_left h i s = (length h.kinds - (s.taken + fields_in (drop i h.items))) * (length h.items + 1) + (length h.items - i)

abbrev pub turns_of : Walk → ℕ
turns_of w = turns_left (sheet_of w) w.index w.state

-- a turn that moves the walk w to v
pub record MovesNext (w v : Walk) : Type 0 where
  pub left : left_of w ≡ left_of v
  pub same : SameSheet w v
  pub taken : v.state.taken ≡ w.state.taken
  pub fewer : turns_of v < turns_of w

-- one that covers columns, after which v is left of the walk w
pub record CoversNext (w v : Walk) (c : Cover) : Type 0 where
  pub placement : steps.Placement
  pub left : left_of w ≡ put placement (left_of v)
  pub same : SameSheet w v
  pub is : CoverIs (sheet_of w) w.run.chars.now w.state.taken c placement
  pub taken : v.state.taken ≡ w.state.taken + takes c.word
  pub fewer : turns_of v < turns_of w

-- a turn; or the walk ends with so many records, or is refused
abbrev pub TurnIs : Walk → Result Turn Refusal → Walk → Type 0
TurnIs w (Ok turn.Moves) v = MovesNext w v
TurnIs w (Ok (turn.Covers c)) v = CoversNext w v c
TurnIs w (Ok turn.Ends) v = left_of w ≡ done (v.state.row + 1)
TurnIs w (Err why) v = left_of w ≡ stopped why

-- ---- the walk, part by part

-- a walk begins with these columns, i elements being taken before, and then `left` is left of it, j elements being taken
pub data Begins (h : Sheet) (t : List ℕ) : ℕ → List Cover → Trace → ℕ → Trace → Type 0 where
  none : {i : ℕ} {left : Trace} → Begins h t i [] left i left
  next : {i j : ℕ} {c : Cover} {cs : List Cover} {p : steps.Placement} {whole left : Trace}
      → CoverIs h t i c p → Begins h t (i + takes c.word) cs whole j left → Begins h t i (c ∷ cs) (put p whole) j left

-- these columns, which w begins with, and after which v is left
pub record FieldsAs (w v : Walk) (covers : List Cover) : Type 0 where
  pub same : SameSheet w v
  pub begins : Begins (sheet_of w) w.run.chars.now w.state.taken covers (left_of w) v.state.taken (left_of v)
  pub no_more : turns_of v ≤ turns_of w

-- a walk goes on from v, as the rest of w, where `taken` elements are taken and `left` is left
pub record GoesOn (w v : Walk) (taken : ℕ) (left : Trace) : Type 0 where
  pub same : SameSheet w v
  pub takes_so_many : v.state.taken ≡ taken
  pub is_left : left ≡ left_of v

-- why placing stopped after so many columns, `left` being left of the walk w: it ends, is refused, or goes on from v, the slice
-- holding no more
abbrev pub StopIs : Walk → Walk → ℕ → ℕ → ℕ → Trace → Stop → Type 0
StopIs w v count room taken left (stop.Ends n) = left ≡ done n
StopIs w v count room taken left (stop.Refused why) = left ≡ stopped why
StopIs w v count room taken left stop.Full = GoesOn w v taken left × (count ≡ room)

-- what was placed of the walk w: the columns that it begins with, and why no more
pub record PlacedAs (w v : Walk) (r : Placed) (covers : List Cover) : Type 0 where
  pub many : r.count ≤ length covers
  pub taken : ℕ
  pub left : Trace
  pub begins : Begins (sheet_of w) w.run.chars.now w.state.taken (take r.count covers) (left_of w) taken left
  pub stops : StopIs w v r.count (length covers) taken left r.stop
