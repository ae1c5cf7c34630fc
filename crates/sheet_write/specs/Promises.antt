-- What the theorems of proofs/Promises.antt say of writing.
-- Assumes nothing.
use Rattle.std.specs.Prelude.{◌≡◌, ◌↔◌, Bool, true, false, List, map, ℕ, ◌+◌, ◌-◌, ◌*◌, ◌/◌, ◌<◌, ◌≤◌, ℤ, nat_abs, length, drop, get_or, replicate}
use Rattle.buffer.specs.Characters.{blank, asterisk}
use Rattle.number.specs.Limits.{largest}
use Rattle.number.specs.Rounding.{Nearest}
use Rattle.settings.specs.declared.Settings.{Settings}
use Rattle.field_written.specs.Numeral.{Numeric, Numeral, stands_for}
use Rattle.field_written.specs.Numeral as numeral
use Rattle.field_written.specs.Promises.{AsWritten}
use Rattle.format_items.specs.Items.{Field, Items}
use Rattle.format_grammar.specs.Promises.{Acceptable}
use Rattle.list_elements.specs.Elements.{kind_of, values}
use Rattle.list_elements.specs.Limits.{good, list_check}
use Rattle.list_elements.specs.declared.Decimal.{Decimal}
use Rattle.list_elements.specs.declared.Value.{Value}
use Rattle.list_elements.specs.declared.Value.TheVariants as value
use Rattle.list_elements.specs.declared.List as carried
use Rattle.sheet_walk.specs.Refusals.{refusal_number, refusal_place}
use Rattle.sheet_walk.specs.Steps.{element, Placement, records_in}
use Rattle.sheet_walk.specs.Walk.{Trace, put, done, stopped, sheet, walk}
use Rattle.sheet_walk.specs.Columns.{In, covered_twice, LastCovers, Uncovered}
use Rattle.sheet_walk.specs.Laid.{offset, columns}
use Rattle.sheet_walk.specs.Promises.{EndsWith, Inside, Suited, StopsWith, elements_put, numbers_from}
use Rattle.sheet_walk.specs.declared.Refusal.{Refusal}
use Rattle.sheet_rows.specs.Promises.{RowsPassed, RowAnswers, FormatRefused, ElementRefused}
use Rattle.write_passes.specs.Placed.{value_at, characters}
use Rattle.sheet_walk.specs.Answers.{Answer, answer_number, answer_place, answer_records, answer_starred}
use Rattle.sheet_write.specs.Writing.{Writing, accepts, refuses, writing, write_answer, write_buffer}

-- ---- what a call is given

pub record Call : Type 0 where
  pub R : ℕ
  pub format : List ℕ
  pub list : carried.List
  pub area : List ℕ
  pub buffer : List ℕ

-- the values of its list; what becomes of it; what it answers, with the starred number and the number of records; and the
-- buffer afterwards
abbrev pub values_of : Call → List Value
values_of c = values c.list

abbrev pub becomes : Call → Writing
becomes c = writing c.R c.format c.list c.area (length c.buffer)

abbrev pub answer_to : Call → Answer
answer_to c = write_answer c.R c.format c.list c.area c.buffer

abbrev pub starred_number : Call → ℕ
starred_number c = answer_starred (answer_to c)

abbrev pub records_number : Call → ℕ
records_number c = answer_records (answer_to c)

abbrev pub buffer_after : Call → List ℕ
buffer_after c = write_buffer c.R c.format c.list c.area c.buffer

-- ---- which row answers, with its number and its place: 'Rows apply in this order down to the first walk row; then the first
-- refusal on the walk counts'

-- every row before the walk is passed, the format's items being xs
abbrev pub Walks : Call → Items → Type 0
Walks c xs = RowsPassed c.R (Acceptable c.format xs) (list_check c.area c.list ≡ good) (length c.buffer / c.R)

-- one of them answers with a number and a place
abbrev pub RowBefore : Call → ℕ → ℕ → Type 0
RowBefore c =
    RowAnswers c.R ((xs : Items) × Acceptable c.format xs) (FormatRefused c.format) (list_check c.area c.list ≡ good) (ElementRefused (list_check c.area c.list))
    (length c.buffer / c.R)

-- the call's walk, under the items xs
abbrev pub walk_of : Call → Items → Trace
walk_of c xs = walk (sheet xs (map kind_of (values_of c)) (records_in c.R (length c.buffer)))

-- 'The rounded units must have magnitude at most 10^18 − 1': what a placement puts is no decimal that is rounded beyond that
abbrev pub RoundsWithin : List Value → Placement → Type 0
RoundsWithin vs p =
    (i w d : ℕ) (x : Decimal) → p.what ≡ element i (Field.F w d) → value_at vs i ≡ value.Decimal x → (r : ℤ) → Nearest x.units x.places d r → nat_abs r ≤ largest

-- the first placement whose decimal is rounded beyond that is the one of element i. (By the law `RoundedIs` of `number` a
-- decimal has one r that is nearest.)
pub data TooLargeAt (vs : List Value) (i : ℕ) : Trace → Type 0 where
  here : {p : Placement} {t : Trace} {w d : ℕ} {x : Decimal} {r : ℤ} → p.what ≡ element i (Field.F w d) → value_at vs i ≡ value.Decimal x
      → Nearest x.units x.places d r → largest < nat_abs r → TooLargeAt vs i (put p t)
  there : {p : Placement} {t : Trace} → RoundsWithin vs p → TooLargeAt vs i t → TooLargeAt vs i (put p t)

-- every row is passed, and the walk t ends with n records
pub record AcceptableCall (c : Call) (t : Trace) (n : ℕ) : Type 0 where
  pub xs : Items
  pub walks : Walks c xs
  pub is : t ≡ walk_of c xs
  pub ends : EndsWith n t
  pub rounds : (p : Placement) → In p t → RoundsWithin (values_of c) p

-- what answers with a number and a place: acceptance, or a row
pub data AnsweredBy (c : Call) : ℕ → ℕ → Type 0 where
  acceptable : {t : Trace} {n : ℕ} → AcceptableCall c t n → AnsweredBy c 0 0
  row_before : {k p : ℕ} → RowBefore c k p → AnsweredBy c k p
  refused_walk : {xs : Items} {why : Refusal} → Walks c xs → StopsWith why (walk_of c xs) → ((p : Placement) → In p (walk_of c xs) → RoundsWithin (values_of c) p)
      → AnsweredBy c (refusal_number why) (refusal_place why)
  too_large : {xs : Items} {i : ℕ} → Walks c xs → TooLargeAt (values_of c) i (walk_of c xs) → AnsweredBy c 11 i

-- every call is accepted, or refused by a row whose condition holds after the rows before it
abbrev pub AlwaysAnswered : Type 0
AlwaysAnswered = (c : Call) → AnsweredBy c (answer_number (answer_to c)) (answer_place (answer_to c))

-- and by no other: what answers has the answer's number and place
abbrev pub AnsweredOnly : Type 0
AnsweredOnly = (c : Call) (k p : ℕ) → AnsweredBy c k p → (answer_number (answer_to c) ≡ k) × (answer_place (answer_to c) ≡ p)

-- a call is accepted, with the walk t and n records, exactly when every row is passed
abbrev pub AcceptsExactly : Type 0
AcceptsExactly = (c : Call) (t : Trace) (n : ℕ) → (becomes c ≡ accepts t n) ↔ AcceptableCall c t n

-- 'A refusal carries number and place, and besides them zero records, zero starred ..; every lent byte is then as before the
-- call.' (The format and the text area are lent so that no call can change them.)
abbrev pub RefusedSo : Type 0
RefusedSo =
    (c : Call) (why : Refusal) → becomes c ≡ refuses why → (answer_number (answer_to c) ≡ refusal_number why)
    × (answer_place (answer_to c) ≡ refusal_place why)
    × (records_number c ≡ 0)
    × (starred_number c ≡ 0)
    × (buffer_after c ≡ c.buffer)

-- ---- what an accepted writing puts

-- every element of the list once, in order
abbrev pub ElementsPut : Type 0
ElementsPut = (c : Call) (t : Trace) (n : ℕ) → becomes c ≡ accepts t n → elements_put t ≡ numbers_from 0 (length (values_of c))

-- each field and literal lies in columns of the records written and has as many characters as columns; an element stands under
-- a field that its kind suits, as wide as its descriptor says
abbrev pub PlacedRight : Type 0
PlacedRight =
    (c : Call) (t : Trace) (n : ℕ) → becomes c ≡ accepts t n → (p : Placement) → In p t → Inside c.R n p
    × (length (characters c.area (values_of c) p) ≡ p.width)
    × ((i : ℕ) (f : Field ℕ) → p.what ≡ element i f → Suited (map kind_of (values_of c)) i f p.width)

-- ---- which fields are starred ('Stars and reading back' as a whole is `DemandThree` of `read_back`)

abbrev pub numeric : Field ℕ → Bool
numeric (Field.I w) = true
numeric (Field.F w d) = true
numeric (Field.L w) = false
numeric Field.A = false
numeric (Field.Aw w) = false

-- 'no numeral of its width stands for the value rounded as its descriptor says'; 'the asterisk rule is read with the numerals that the
-- setting permits'
pub data NoNumeral (g : Settings) (v : Value) : Field ℕ → Type 0 where
  integer : {n : ℤ} {w : ℕ} → v ≡ value.Integer n → ((t : Numeral g.signs Numeric.I w) → stands_for t ≡ n → ⊥) → NoNumeral g v (Field.I w)
  decimal : {x : Decimal} {w d : ℕ} → v ≡ value.Decimal x → ((t : Numeral g.signs (Numeric.F d) w) → Nearest x.units x.places d (stands_for t) → ⊥)
      → NoNumeral g v (Field.F w d)

-- 'In every accepted writing .. a numeric field puts asterisks in all its columns, overwritten later or not, exactly when no
-- numeral of its width stands for the value rounded as its descriptor says.'
abbrev pub StarsExactlyWhen : Type 0
StarsExactlyWhen =
    (c : Call) (t : Trace) (n : ℕ) → becomes c ≡ accepts t n → (p : Placement) → In p t → (i : ℕ) (f : Field ℕ) → p.what ≡ element i f
    → numeric f ≡ true → (characters c.area (values_of c) p ≡ replicate p.width asterisk) ↔ NoNumeral p.settings (value_at (values_of c) i) f

-- the characters cs are the numeral of a field's width that stands for the value, written as the rules have it under these settings
pub data Shows (g : Settings) (v : Value) (cs : List ℕ) : Field ℕ → Type 0 where
  integer_shown : {n : ℤ} {w : ℕ} (t : Numeral g.signs Numeric.I w) → v ≡ value.Integer n → numeral.characters t ≡ cs → AsWritten g.signs Numeric.I w n t
      → Shows g v cs (Field.I w)
  decimal_shown : {x : Decimal} {w d : ℕ} {r : ℤ} (t : Numeral g.signs (Numeric.F d) w) → v ≡ value.Decimal x → Nearest x.units x.places d r
      → numeral.characters t ≡ cs → AsWritten g.signs (Numeric.F d) w r t → Shows g v cs (Field.F w d)

-- where some numeral of the field's width stands for the value, the field is the one that the rules describe
abbrev pub NumeralsShown : Type 0
NumeralsShown =
    (c : Call) (t : Trace) (n : ℕ) → becomes c ≡ accepts t n → (p : Placement) → In p t → (i : ℕ) (f : Field ℕ) → p.what ≡ element i f
    → numeric f ≡ true → (NoNumeral p.settings (value_at (values_of c) i) f → ⊥) → Shows p.settings (value_at (values_of c) i) (characters c.area (values_of c) p) f

-- a placement of a numeric field where no numeral of its width stands for the value
pub record Unrepresentable (vs : List Value) (p : Placement) : Type 0 where
  pub i : ℕ
  pub f : Field ℕ
  pub is : p.what ≡ element i f
  pub none : NoNumeral p.settings (value_at vs i) f

-- k of the walk's placements have the property P
pub data Counted (P : Placement → Type 0) : Trace → ℕ → Type 0 where
  ends : {n : ℕ} → Counted P (done n) 0
  refused : {why : Refusal} → Counted P (stopped why) 0
  counts : {p : Placement} {t : Trace} {k : ℕ} → P p → Counted P t k → Counted P (put p t) (k + 1)
  passes : {p : Placement} {t : Trace} {k : ℕ} → (P p → ⊥) → Counted P t k → Counted P (put p t) k

-- 'The starred number in the result is the number of these fields.'
abbrev pub StarredIsTheirNumber : Type 0
StarredIsTheirNumber = (c : Call) (t : Trace) (n : ℕ) → becomes c ≡ accepts t n → Counted (Unrepresentable (values_of c)) t (starred_number c)

-- ---- records and bytes

-- the records of the result are those that the walk reached, and fit into the buffer
abbrev pub RecordsReached : Type 0
RecordsReached =
    (c : Call) (t : Trace) (n : ℕ) → becomes c ≡ accepts t n → EndsWith n t × (records_number c ≡ n) × (1 ≤ n) × (n * c.R ≤ length c.buffer)

-- 'a later item overwrites': in the column k of the record r stands the character of the last placement that covers it
abbrev pub LastHolds : Type 0
LastHolds =
    (c : Call) (t : Trace) (n : ℕ) → becomes c ≡ accepts t n → (p : Placement) (r k : ℕ) → LastCovers p r k t
    → get_or (buffer_after c) (offset c.R r k) 0 ≡ get_or (characters c.area (values_of c) p) (k - p.column) 0

-- 'Each is blank apart from what was put there'
abbrev pub BlankElsewhere : Type 0
BlankElsewhere =
    (c : Call) (t : Trace) (n : ℕ) → becomes c ≡ accepts t n → (r k : ℕ) → r < n → 1 ≤ k → k ≤ c.R → Uncovered r k t
    → get_or (buffer_after c) (offset c.R r k) 0 ≡ blank

-- where no column is covered twice, the bytes in a placement's columns are its characters
abbrev pub ColumnsHold : Type 0
ColumnsHold =
    (c : Call) (t : Trace) (n : ℕ) → becomes c ≡ accepts t n → covered_twice t ≡ false → (p : Placement) → In p t
    → columns c.R p (buffer_after c) ≡ characters c.area (values_of c) p

-- 'Bytes after the last written record keep their contents', and the buffer its length
abbrev pub RestKept : Type 0
RestKept =
    (c : Call) (t : Trace) (n : ℕ) → becomes c ≡ accepts t n → (length (buffer_after c) ≡ length c.buffer) × (drop (n * c.R) (buffer_after c) ≡ drop (n * c.R) c.buffer)
