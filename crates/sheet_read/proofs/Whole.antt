-- The public call, from what its parts do.
-- Assumes nothing.
use Rattle.std.proofs.Common.{◌≡◌, refl, sym, ap, ◌∙◌, false, List, [], map, ℕ, length, take, arith, Bor}
use Rattle.std.specs.Prelude.{Result, Ok, Err}
use Rattle.std.specs.List.{take-map}
use Rattle.std.proofs.lemmas.List.{length-map}
use Rattle.list_elements.specs.Elements.{value_of, kind_of, values, most_elements}
use Rattle.list_elements.specs.Limits.{may_be_wanted, wanted_check}
use Rattle.list_elements.specs.Checked.{CheckedAs}
use Rattle.list_elements.proofs.GoodLaws.{bad_not_good, check_good}
use lib.ListN.{length-take}
use native.Mathlib.Nat.{min-le_left}
use Rattle.list_elements.specs.Contents.{Content, laid_texts, values_from, list_of}
use Rattle.list_elements.specs.declared.BadElement.{BadElement}
use Rattle.list_elements.specs.declared.Element.{Element}
use Rattle.list_elements.specs.declared.List as carried
use Rattle.list_elements.specs.Elements as elements
use Rattle.sheet_walk.specs.declared.Refusal.{Refusal}
use Rattle.sheet_walk.specs.declared.Refusal.TheVariants.{RecordWidth}
use Rattle.sheet_walk.specs.Steps.{width_right}
use Rattle.sheet_read.proofs.ReadLaws.{width_refuses}
use Rattle.list_elements.proofs.ContentLaws.{kinds_are}
use Rattle.read_passes.specs.Passes.{Found}
use Rattle.sheet_walk.specs.Answers.{answer_number, answer_place, answer_records, answer_starred}
use Rattle.sheet_read.specs.Reading.{Reading, accepts, refuses, reading, answer_of, answer_in, list_in, list_given, area_of, read_answer, read_list, read_area, reading_number, reading_place, reading_records, reading_starred}
use Rattle.sheet_read.specs.Parts.{WantedWithin, ending_of, Did, ReadText}
use Rattle.sheet_read.specs.Promises.{Call, kinds_of, becomes}
use Rattle.sheet_read.specs.declared.SheetRead.{SheetRead}
use Rattle.sheet_read.proofs.Promises.{accepts_exactly}

-- ---- what a reading answers, gives and leaves in the area

pub record Answered (m : Reading) (area : List ℕ) (r : Result SheetRead Refusal) (after : List ℕ) : Type 0 where
  pub answers : answer_in r ≡ answer_of m
  pub gives : list_in r ≡ list_given m
  pub bytes : after ≡ area_of area m

pub answered_refused : {m : Reading} {why : Refusal} {area : List ℕ} → m ≡ refuses why → Answered m area (Err why) area
answered_refused f = rw f (record { answers = refl; gives = refl; bytes = refl })

refused_from : {why : Refusal} (m : Reading) → Err why ≡ ending_of m → m ≡ refuses why
refused_from (accepts cs k) e = let z : ⊥ = cc in absurd z
refused_from {why} (refuses w) e = let z : w ≡ why = cc in ap refuses z

-- ---- the elements wanted

-- at most 64
pub wanted_within : (l : carried.List) (x : Result (Bor (List Element)) BadElement) → CheckedAs may_be_wanted l x → WantedWithin x most_elements
wanted_within l (Ok es) k = omega (arith, ap length k.1, length-take l.count l.elements, min-le_left l.count (length l.elements), (check_good may_be_wanted l k.0).1)
wanted_within l (Err e) k = tt

module _ (c : Call) where
  -- row 1
  pub width_answered : width_right c.R ≡ false → Answered (becomes c) c.area (Err RecordWidth) c.area
  width_answered e = answered_refused (refused_from (becomes c) (width_refuses c.R c.format (wanted_check c.wanted) (kinds_of c) (length c.area) c.records e {found = []}).ends)

  pub kinds_wanted : (es : List Element) → es ≡ take c.wanted.count c.wanted.elements → elements.kinds_of es ≡ kinds_of c
  unfolding values
  kinds_wanted es e = kinds_are es ∙ ap (map kind_of) (ap (map value_of) e ∙ sym (take-map value_of c.wanted.count c.wanted.elements))

  module _ (x : Result (Bor (List Element)) BadElement) (is : CheckedAs may_be_wanted c.wanted x) (r : Result ℕ Refusal) (found : List Element) (did : ReadText c.R c.format x (length c.area) c.records r found) where
    did_so : Did (becomes c) (kinds_of c) c.records r found
    did_so = go x is did
      where
        go : (x : Result (Bor (List Element)) BadElement) → CheckedAs may_be_wanted c.wanted x → ReadText c.R c.format x (length c.area) c.records r found → Did (becomes c) (kinds_of c) c.records r found
        go (Ok es) k d = rw (k.0, ← kinds_wanted es.now k.1) d
        go (Err e) k d = rw k (d (kinds_of c))

    -- refused
    pub read_refused : {why : Refusal} → r ≡ Err why → Answered (becomes c) c.area (Err why) c.area
    read_refused e = answered_refused (refused_from (becomes c) (sym e ∙ did_so.ends))

    accepted_from : {k : ℕ} (m : Reading) → Ok k ≡ ending_of m → (cs : List Content) × (m ≡ accepts cs k)
    accepted_from {k} (accepts cs j) e = let z : j ≡ k = cc in (cs, ap (accepts cs) z)
    accepted_from (refuses w) e = let z : ⊥ = cc in absurd z

    -- accepted: the wanted elements are good, and what they hold was found
    pub record Accepting (k : ℕ) : Type 0 where
      pub es : Bor (List Element)
      pub wanted_is : x ≡ Ok es
      pub cs : List Content
      pub found_all : Found c.records es.now found (length c.area) cs
      pub answered : {l : carried.List} {after : List ℕ} → l ≡ list_of (values_from 0 cs) → after ≡ laid_texts c.area cs → Answered (becomes c) c.area (Ok (record { counts = record { records = k; starred = 0 }; list = l })) after

    pub read_accepted : {k : ℕ} → r ≡ Ok k → WantedWithin x (length found) → Accepting k
    read_accepted {k} e within =
        let a = accepted_from (becomes c) (sym e ∙ did_so.ends) in
        go x is within a.0 a.1 refl
      where
        go : (y : Result (Bor (List Element)) BadElement) → CheckedAs may_be_wanted c.wanted y → WantedWithin y (length found) → (cs : List Content) → becomes c ≡ accepts cs k → x ≡ y → Accepting k
        go (Ok es) q w cs b =
            let g = (accepts_exactly c cs k).0 b in
            let q' = kinds_wanted es.now q.1 in
            let m : length es.now ≡ length (kinds_of c) = sym (length-map es.now (λ e. kind_of (value_of e))) ∙ ap length q' in
            λ s.
            record {
              es = es;
              wanted_is = s;
              cs = cs;
              found_all =
                  record {
                    many = g.as_many ∙ sym m;
                    few = omega (arith, ap length q.1, length-take c.wanted.count c.wanted.elements, min-le_left c.wanted.count (length c.wanted.elements), (check_good may_be_wanted c.wanted q.0).1);
                    long = w;
                    fits = rw q' g.accepted.walks.list.room;
                    each = rw q' (did_so.held cs k b);
                  };
              answered = λ e f. rw b (record { answers = refl; gives = e; bytes = f });
            }
        go (Err p) q w cs b = λ s. absurd (bad_not_good (sym q ∙ ((accepts_exactly c cs k).0 b).accepted.walks.list.good))

-- ---- the answer's number, place, records and starred

number_of : (m : Reading) → answer_number (answer_of m) ≡ reading_number m
number_of (accepts cs n) = refl
number_of (refuses why) = refl

place_of : (m : Reading) → answer_place (answer_of m) ≡ reading_place m
place_of (accepts cs n) = refl
place_of (refuses why) = refl

records_of : (m : Reading) → answer_records (answer_of m) ≡ reading_records m
records_of (accepts cs n) = refl
records_of (refuses why) = refl

starred_of_lem : (m : Reading) → answer_starred (answer_of m) ≡ reading_starred m
starred_of_lem (accepts cs n) = refl
starred_of_lem (refuses why) = refl

module _ (R : ℕ) (format : List ℕ) (l : carried.List) (area input : List ℕ) where
  abbrev became : Reading
  became = reading R format l (length area) input

  -- all that a call promises
  pub record Promised (r : Result SheetRead Refusal) (after : List ℕ) : Type 0 where
    pub answers : answer_in r ≡ read_answer R format l area input
    pub values : list_in r ≡ read_list R format l area input
    pub texts : after ≡ read_area R format l area input
    pub number : answer_number (answer_in r) ≡ reading_number became
    pub place : answer_place (answer_in r) ≡ reading_place became
    pub records : answer_records (answer_in r) ≡ reading_records became
    pub starred : answer_starred (answer_in r) ≡ reading_starred became

  pub finished : {r : Result SheetRead Refusal} {after : List ℕ} → Answered became area r after → Promised r after
  finished w =
      record {
        answers = w.answers;
        values = w.gives;
        texts = w.bytes;
        number = ap answer_number w.answers ∙ number_of became;
        place = ap answer_place w.answers ∙ place_of became;
        records = ap answer_records w.answers ∙ records_of became;
        starred = ap answer_starred w.answers ∙ starred_of_lem became;
      }
