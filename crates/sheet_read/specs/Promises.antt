-- What the theorems of proofs/Promises.antt say of reading.
-- Assumes nothing.
use Rattle.std.specs.Prelude.{◌≡◌, ◌↔◌, List, map, ℕ, ◌/◌, ◌<◌, ◌≤◌, length, take, drop, get_or, pos}
use Rattle.format_items.specs.Items.{Field, Items}
use Rattle.format_grammar.specs.Promises.{Acceptable}
use Rattle.list_elements.specs.Elements.{Kind, kind_of, zero_value, empty_list, values, most_elements}
use Rattle.list_elements.specs.Limits.{good, wanted_check, texts_length}
use Rattle.list_elements.specs.Contents.{Content, integer, content_of, texts_of, values_from, element_of}
use Rattle.list_elements.specs.declared.Element.{Element}
use Rattle.list_elements.specs.declared.List as carried
use Rattle.sheet_walk.specs.Refusals.{refusal_number, refusal_place}
use Rattle.sheet_walk.specs.Steps.{element, Placement, records_in}
use Rattle.sheet_walk.specs.Walk.{Trace, put, sheet, walk}
use Rattle.sheet_walk.specs.Columns.{In}
use Rattle.sheet_walk.specs.Laid.{columns}
use Rattle.sheet_walk.specs.Promises.{EndsWith, StopsWith, elements_put, numbers_from}
use Rattle.sheet_walk.specs.declared.Refusal.{Refusal}
use Rattle.sheet_rows.specs.Promises.{RowsPassed, RowAnswers, FormatRefused, ElementRefused}
use Rattle.read_passes.specs.Given.{Given, gives, nothing, field_gives, kind_at}
use Rattle.sheet_walk.specs.Answers.{Answer, answer_number, answer_place, answer_records, answer_starred}
use Rattle.sheet_read.specs.Reading.{Reading, accepts, refuses, reading, read_answer, read_list, read_area}

-- ---- what a call is given

pub record Call : Type 0 where
  pub R : ℕ
  pub format : List ℕ
  pub wanted : carried.List
  pub area : List ℕ
  pub records : List ℕ

-- the kinds wanted; what becomes of the call; what it answers, and the list and the text area afterwards
abbrev pub kinds_of : Call → List Kind
kinds_of c = map kind_of (values c.wanted)

abbrev pub becomes : Call → Reading
becomes c = reading c.R c.format c.wanted (length c.area) c.records

abbrev pub answer_to : Call → Answer
answer_to c = read_answer c.R c.format c.wanted c.area c.records

abbrev pub list_after : Call → carried.List
list_after c = read_list c.R c.format c.wanted c.area c.records

abbrev pub area_after : Call → List ℕ
area_after c = read_area c.R c.format c.wanted c.area c.records

-- what the elements of the list given hold
abbrev pub contents_after : Call → List Content
contents_after c = map (content_of (area_after c)) (values (list_after c))

-- ---- what matters of the wanted elements

-- 'the caller lists the kinds wanted, with a length for each text': of the wanted elements nothing else matters, and of the text
-- area only its length. (The count is named beside the kinds, since a count over 64 has the kinds of 64 elements.)
abbrev pub KindsOnly : Type 0
KindsOnly =
    (c d : Call) → c.R ≡ d.R → c.format ≡ d.format → c.records ≡ d.records → c.wanted.count ≡ d.wanted.count → kinds_of c ≡ kinds_of d → length c.area ≡ length d.area
    → becomes c ≡ becomes d

-- ---- which row answers, with its number and its place: 'Rows apply in this order down to the first walk row; then the first
-- refusal on the walk counts'

-- the rows of the wanted elements, 6 and 13, are passed
pub record WantedPass (c : Call) : Type 0 where
  pub good : wanted_check c.wanted ≡ good
  pub room : texts_length (kinds_of c) ≤ length c.area

-- one of them answers with a number and a place
pub data WantedAnswers (c : Call) : ℕ → ℕ → Type 0 where
  row_six : {k p : ℕ} → ElementRefused (wanted_check c.wanted) k p → WantedAnswers c k p
  no_room : wanted_check c.wanted ≡ good → length c.area < texts_length (kinds_of c) → WantedAnswers c 13 0

-- every row before the walk is passed, the format's items being xs
abbrev pub Walks : Call → Items → Type 0
Walks c xs = RowsPassed c.R (Acceptable c.format xs) (WantedPass c) (length c.records / c.R)

-- one of them answers
abbrev pub RowBefore : Call → ℕ → ℕ → Type 0
RowBefore c = RowAnswers c.R ((xs : Items) × Acceptable c.format xs) (FormatRefused c.format) (WantedPass c) (WantedAnswers c) (length c.records / c.R)

-- the call's walk, under the items xs
abbrev pub walk_of : Call → Items → Trace
walk_of c xs = walk (sheet xs (kinds_of c) (records_in c.R (length c.records)))

-- what the columns of a placement give, read as the field f of element i
abbrev pub given_by : Call → Placement → ℕ → Field ℕ → Given
given_by c p i f = field_gives f (kind_at (kinds_of c) i) (columns c.R p c.records)

-- what a placement covers is a literal, or a field that gives something
abbrev pub Readable : Call → Placement → Type 0
Readable c p = (i : ℕ) (f : Field ℕ) → p.what ≡ element i f → given_by c p i f ≡ nothing → ⊥

-- the first placement whose field gives nothing is the one of element i
pub data UnreadableAt (c : Call) (i : ℕ) : Trace → Type 0 where
  here : {p : Placement} {t : Trace} {f : Field ℕ} → p.what ≡ element i f → given_by c p i f ≡ nothing → UnreadableAt c i (put p t)
  there : {p : Placement} {t : Trace} → Readable c p → UnreadableAt c i t → UnreadableAt c i (put p t)

-- every row is passed, and the walk t ends with n records
pub record AcceptableCall (c : Call) (t : Trace) (n : ℕ) : Type 0 where
  pub xs : Items
  pub walks : Walks c xs
  pub is : t ≡ walk_of c xs
  pub ends : EndsWith n t
  pub readable : (p : Placement) → In p t → Readable c p

-- what answers with a number and a place: acceptance, or a row
pub data AnsweredBy (c : Call) : ℕ → ℕ → Type 0 where
  acceptable : {t : Trace} {n : ℕ} → AcceptableCall c t n → AnsweredBy c 0 0
  row_before : {k p : ℕ} → RowBefore c k p → AnsweredBy c k p
  refused_walk : {xs : Items} {why : Refusal} → Walks c xs → StopsWith why (walk_of c xs) → ((p : Placement) → In p (walk_of c xs) → Readable c p)
      → AnsweredBy c (refusal_number why) (refusal_place why)
  unreadable : {xs : Items} {i : ℕ} → Walks c xs → UnreadableAt c i (walk_of c xs) → AnsweredBy c 12 i

-- every call is accepted, or refused by a row whose condition holds after the rows before it
abbrev pub AlwaysAnswered : Type 0
AlwaysAnswered = (c : Call) → AnsweredBy c (answer_number (answer_to c)) (answer_place (answer_to c))

-- and by no other: what answers has the answer's number and place
abbrev pub AnsweredOnly : Type 0
AnsweredOnly = (c : Call) (k p : ℕ) → AnsweredBy c k p → (answer_number (answer_to c) ≡ k) × (answer_place (answer_to c) ≡ p)

-- 'A refusal carries number and place, and besides them zero records, zero starred, no values; every lent byte is then as before
-- the call.' (The format and the records are lent so that no call can change them.)
abbrev pub RefusedSo : Type 0
RefusedSo =
    (c : Call) (why : Refusal) → becomes c ≡ refuses why → (answer_number (answer_to c) ≡ refusal_number why)
    × (answer_place (answer_to c) ≡ refusal_place why)
    × (answer_records (answer_to c) ≡ 0)
    × (answer_starred (answer_to c) ≡ 0)
    × (list_after c ≡ empty_list)
    × (area_after c ≡ c.area)

-- ---- what an accepted reading gives

-- an acceptable call meets every element wanted once, in order
abbrev pub MetInOrder : Type 0
MetInOrder = (c : Call) (t : Trace) (n : ℕ) → AcceptableCall c t n → elements_put t ≡ numbers_from 0 (length (kinds_of c))

-- every row is passed, and each element holds what its field gives
pub record GivenInOrder (c : Call) (cs : List Content) (n : ℕ) : Type 0 where
  pub t : Trace
  pub accepted : AcceptableCall c t n
  pub as_many : length cs ≡ length (kinds_of c)
  pub field : (p : Placement) → In p t → (i : ℕ) (f : Field ℕ) → p.what ≡ element i f → given_by c p i f ≡ gives (get_or cs i (integer (pos 0)))

-- a call is accepted with these contents and n records exactly then
abbrev pub AcceptsExactly : Type 0
AcceptsExactly = (c : Call) (cs : List Content) (n : ℕ) → (becomes c ≡ accepts cs n) ↔ GivenInOrder c cs n

-- what the answer, the list and the text area then are
pub record GivenSo (c : Call) (cs : List Content) (n : ℕ) : Type 0 where
  -- the records, and no starred field
  pub records : answer_records (answer_to c) ≡ n
  pub starred : answer_starred (answer_to c) ≡ 0
  -- the list holds these contents, as many as its count, and is of the kinds wanted
  pub count : (list_after c).count ≡ length cs
  pub contents : contents_after c ≡ cs
  pub kinds : map kind_of (values (list_after c)) ≡ kinds_of c
  -- each text starts where the one before it ends, the first at 0
  pub placed : values (list_after c) ≡ values_from 0 cs
  -- places past the count, up to 64, 'hold integer 0 in a result'
  pub all_places : length (list_after c).elements ≡ most_elements
  pub past : (i : ℕ) (other : Element) → length cs ≤ i → i < most_elements → get_or (list_after c).elements i other ≡ element_of zero_value
  -- the area has the texts end to end 'from its first byte'; 'the bytes after them keep their contents', and the area its length
  pub texts : take (length (texts_of cs)) (area_after c) ≡ texts_of cs
  pub long : length (area_after c) ≡ length c.area
  pub bytes_after : drop (length (texts_of cs)) (area_after c) ≡ drop (length (texts_of cs)) c.area

abbrev pub AcceptedSo : Type 0
AcceptedSo = (c : Call) (cs : List Content) (n : ℕ) → becomes c ≡ accepts cs n → GivenSo c cs n
