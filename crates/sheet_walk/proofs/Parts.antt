-- The walk, part by part: what it begins with.
-- Assumes nothing.
use Rattle.std.proofs.Common.{◌≡◌, refl, sym, ap, subst, ◌∙◌, List, [], ◌∷◌, ◌++◌, ℕ, ◌+◌, ◌<◌, ◌≤◌, length, take, arith}
use Rattle.std.proofs.lemmas.List.{length-take-le}
use Rattle.format_words.specs.declared.run.Run.{Run}
use Rattle.list_elements.specs.declared.Element.{Element}
use Rattle.sheet_walk.specs.declared.Cover.{Cover}
use Rattle.sheet_walk.specs.declared.records.Records as code
use Rattle.sheet_walk.specs.declared.walk.Walk.{Walk}
use Rattle.sheet_walk.specs.declared.placing.Placed.{Placed}
use Rattle.sheet_walk.specs.declared.placing.Stop.{Stop}
use Rattle.sheet_walk.specs.declared.placing.Stop.TheVariants as stop
use Rattle.sheet_walk.specs.declared.Refusal.{Refusal}
use Rattle.sheet_walk.specs.Steps.{Placement}
use Rattle.sheet_walk.specs.Walk.{Sheet, Trace, put, done, stopped}
use Rattle.sheet_walk.specs.Given.{given_sheet, takes}
use Rattle.sheet_walk.specs.Followed.{sheet_of, left_of, GoesBy, SameSheet, CoverIs, MovesNext, CoversNext, FieldsAs, Begins, StopIs, PlacedAs}
use Rattle.sheet_walk.proofs.Following.{sheets, same_on}
use Rattle.sheet_walk.proofs.Puts.{puts, sheet_is}

-- the first columns, and the rest
pub record First (h : Sheet) (t : List ℕ) (i : ℕ) (c : Cover) (cs : List Cover) (whole : Trace) (j : ℕ) (left : Trace) : Type 0 where
  pub placement : Placement
  pub after : Trace
  pub is_put : whole ≡ put placement after
  pub is : CoverIs h t i c placement
  pub rest : Begins h t (i + takes c.word) cs after j left

module _ {h : Sheet} {t : List ℕ} where
  -- one more
  pub begins_more : {i j : ℕ} {cs : List Cover} {c : Cover} {p : Placement} {whole left : Trace} → Begins h t i cs whole j (put p left) → CoverIs h t j c p
      → Begins h t i (cs ++ c ∷ []) whole (j + takes c.word) left
  begins_more Begins.none k = Begins.next k Begins.none
  begins_more (Begins.next a b) k = Begins.next a (begins_more b k)

  pub begins_first : {i j : ℕ} {c : Cover} {cs : List Cover} {whole left : Trace} → Begins h t i (c ∷ cs) whole j left → First h t i c cs whole j left
  begins_first (Begins.next {p} {whole} a b) = record { placement = p; after = whole; is_put = refl; is = a; rest = b }

  pub begins_none : {i j : ℕ} {whole left : Trace} → Begins h t i [] whole j left → (whole ≡ left) × (i ≡ j)
  begins_none Begins.none = (refl, refl)

  -- as many placements fewer
  pub begins_puts : {i j : ℕ} {cs : List Cover} {whole left : Trace} → Begins h t i cs whole j left → puts whole ≡ length cs + puts left
  unfolding puts
  begins_puts Begins.none = omega arith
  begins_puts (Begins.next a b) = let e = begins_puts b in omega arith

  -- more columns
  pub begins_join : {i j k : ℕ} {cs ds : List Cover} {whole mid left : Trace} → Begins h t i cs whole j mid → Begins h t j ds mid k left → Begins h t i (cs ++ ds) whole k left
  begins_join Begins.none b = b
  begins_join (Begins.next a c) b = Begins.next a (begins_join c b)

-- ---- by the code's walk

-- the walk u began with the columns cs, and w is left of it
pub record Begun (u w : Walk) (cs : List Cover) : Type 0 where
  pub same : SameSheet u w
  pub begins : Begins (sheet_of u) u.run.chars.now u.state.taken cs (left_of u) w.state.taken (left_of w)

pub begun_none : (u : Walk) → Begun u u []
begun_none u = record { same = record { run = refl; elements = refl; records = refl }; begins = Begins.none }

-- what holds by the sheet of w holds by that of u
by_sheet : {u w : Walk} (P : Sheet → List ℕ → Type 0) → SameSheet u w → P (sheet_of w) w.run.chars.now → P (sheet_of u) u.run.chars.now
by_sheet {u} {w} P same = subst (λ k. P k.0 k.1) sheet_and_chars
  where
    sheet_and_chars : ◌≡◌ {A = Sheet × List ℕ} (sheet_of w, w.run.chars.now) (sheet_of u, u.run.chars.now)
    sheet_and_chars = rw (sheets u w same, same.run)

pub begun_moves : {u w v : Walk} {cs : List Cover} → Begun u w cs → MovesNext w v → Begun u v cs
begun_moves {u} {w} {v} {cs} b m =
    record {
      same = same_on b.same m.same;
      begins = subst (λ j. Begins (sheet_of u) u.run.chars.now u.state.taken cs (left_of u) j (left_of v)) (sym m.taken) (subst (λ z. Begins (sheet_of u) u.run.chars.now u.state.taken cs (left_of u) w.state.taken z) m.left b.begins);
    }

pub begun_fields : {u w v : Walk} {cs ds : List Cover} → Begun u w cs → FieldsAs w v ds → Begun u v (cs ++ ds)
begun_fields {u} {w} {v} {cs} {ds} b m =
    record {
      same = same_on b.same m.same;
      begins = begins_join b.begins (by_sheet (λ h t. Begins h t w.state.taken ds (left_of w) v.state.taken (left_of v)) b.same m.begins);
    }

pub begun_more : {u w v : Walk} {cs : List Cover} {c : Cover} → Begun u w cs → CoversNext w v c → Begun u v (cs ++ c ∷ [])
begun_more {u} {w} {v} {cs} {c} b m =
    record {
      same = same_on b.same m.same;
      begins =
          subst (λ j. Begins (sheet_of u) u.run.chars.now u.state.taken (cs ++ c ∷ []) (left_of u) j (left_of v)) (sym m.taken)
          (begins_more (subst (λ z. Begins (sheet_of u) u.run.chars.now u.state.taken cs (left_of u) w.state.taken z) m.left b.begins)
          (by_sheet (λ h t. CoverIs h t w.state.taken c m.placement) b.same m.is));
    }

-- ---- what was placed, by where it stopped

module _ {w v : Walk} {covers : List Cover} {n : ℕ} (few : n ≤ length covers) (b : Begun w v (take n covers)) where
  pub placed_ends : (u : Walk) {records : ℕ} → left_of v ≡ done records → PlacedAs w u (record { count = n; stop = stop.Ends records }) covers
  placed_ends u e = record { many = few; taken = v.state.taken; left = left_of v; begins = b.begins; stops = e }

  pub placed_refused : (u : Walk) {why : Refusal} → left_of v ≡ stopped why → PlacedAs w u (record { count = n; stop = stop.Refused why }) covers
  placed_refused u e = record { many = few; taken = v.state.taken; left = left_of v; begins = b.begins; stops = e }

  pub placed_full : n ≡ length covers → PlacedAs w v (record { count = n; stop = stop.Full }) covers
  placed_full e = record { many = few; taken = v.state.taken; left = left_of v; begins = b.begins; stops = (record { same = b.same; takes_so_many = refl; is_left = refl }, e) }

-- ---- what was placed of a walk that goes by a run, elements and records

-- how the walk goes on
pub record Onward (v : Walk) (r : Run) (es : List Element) (rs : code.Records) (taken : ℕ) (left : Trace) : Type 0 where
  pub goes_by : GoesBy v r es rs
  pub takes_so_many : v.state.taken ≡ taken
  pub is_left : left ≡ left_of v

abbrev pub StopIn : Run → List Element → code.Records → Walk → ℕ → ℕ → ℕ → Trace → Stop → Type 0
StopIn r es rs v count room taken left (stop.Ends n) = left ≡ done n
StopIn r es rs v count room taken left (stop.Refused why) = left ≡ stopped why
StopIn r es rs v count room taken left stop.Full = Onward v r es rs taken left × (count ≡ room)

pub record PlacedIn (r : Run) (es : List Element) (rs : code.Records) (first : ℕ) (whole : Trace) (v : Walk) (p : Placed) (covers : List Cover) : Type 0 where
  pub many : p.count ≤ length covers
  pub taken : ℕ
  pub left : Trace
  pub begins : Begins (given_sheet r es rs) r.chars.now first (take p.count covers) whole taken left
  pub stops : StopIn r es rs v p.count (length covers) taken left p.stop

pub placed_in : {w : Walk} {r : Run} {es : List Element} {rs : code.Records} → GoesBy w r es rs → {v : Walk} {p : Placed} {covers : List Cover} → PlacedAs w v p covers
    → PlacedIn r es rs w.state.taken (left_of w) v p covers
placed_in {w} {r} {es} {rs} g {v} {p} {covers} a =
    record {
      many = a.many;
      taken = a.taken;
      left = a.left;
      begins = subst (λ k. Begins k.0 k.1 w.state.taken (take p.count covers) (left_of w) a.taken a.left) sheet_and_chars a.begins;
      stops = go p.stop a.stops;
    }
  where
    sheet_and_chars : ◌≡◌ {A = Sheet × List ℕ} (sheet_of w, w.run.chars.now) (given_sheet r es rs, r.chars.now)
    sheet_and_chars = rw (sheet_is g, g.run)

    go : (s : Stop) → StopIs w v p.count (length covers) a.taken a.left s → StopIn r es rs v p.count (length covers) a.taken a.left s
    go (stop.Ends n) e = e
    go (stop.Refused why) e = e
    go stop.Full e =
        let s = e.0.same in
        (record { goes_by = record { run = s.run ∙ g.run; elements = ap (λ x. x.now) s.elements ∙ g.elements; records = s.records ∙ g.records }; takes_so_many = e.0.takes_so_many; is_left = e.0.is_left }, e.1)

module _ {r : Run} {es : List Element} {rs : code.Records} {first : ℕ} {whole : Trace} {v : Walk} {p : Placed} {covers : List Cover} (a : PlacedIn r es rs first whole v p covers) where
  pub stops_ends : {n : ℕ} → p.stop ≡ stop.Ends n → a.left ≡ done n
  stops_ends e = subst (StopIn r es rs v p.count (length covers) a.taken a.left) e a.stops

  pub stops_refused : {why : Refusal} → p.stop ≡ stop.Refused why → a.left ≡ stopped why
  stops_refused e = subst (StopIn r es rs v p.count (length covers) a.taken a.left) e a.stops

  pub stops_full : p.stop ≡ stop.Full → Onward v r es rs a.taken a.left × (p.count ≡ length covers)
  stops_full e = subst (StopIn r es rs v p.count (length covers) a.taken a.left) e a.stops

  -- fewer placements are left, where the slice holds any
  pub fewer_left : p.stop ≡ stop.Full → 1 ≤ length covers → puts (left_of v) < puts whole
  fewer_left e some =
      let f = stops_full e in
      let l : length (take p.count covers) ≡ p.count = length-take-le p.count covers a.many in
      let m = begins_puts a.begins in
      omega (arith, l, f.1, some, m, ap puts f.0.is_left)
