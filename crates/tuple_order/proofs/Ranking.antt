-- The place of a tuple in the list of all, found item by item, and back.
use Rattle.std.proofs.Common.{◌≡◌, ℕ, zero, suc, ◌+◌, ◌-◌, ◌<◌, ◌≤◌, List, [], ◌∷◌, ◌++◌, map, length, drop, get_or, Some, ap, sym, ◌∙◌, inl, inr, arith, subst, append-nil, append_assoc, length-append}
use Rattle.std.specs.List.{slice_get}
use Rattle.std.specs.Option.{option_map}
use Rattle.std.proofs.Math.ListN.{length-map}
use Rattle.std.proofs.lemmas.List.{drop_more, drop_all, length-drop}
use Rattle.std.proofs.lemmas.Bool.{cases_lt}
use Rattle.std.proofs.lemmas.Option.{slice_get-map, slice_get_within, slice_get-get_or}
use Rattle.tuple_model.specs.Tuples.{IsRising, IsTuple, rising, tuples}
use Rattle.tuple_model.proofs.Rising.{IsRising-to_higher, IsRisingOfSize-from_member, member-from_IsRisingOfSize}
use Rattle.tuple_model.proofs.Ranks.{member-from_slice_get, slice_get-from_member, slice_get-append_left, slice_get-append_right, rank-larger_size}
use Rattle.tuple_order.specs.Counts.{fewer}
use Rattle.tuple_order.proofs.Counting.{length-rising}
use Rattle.tuple_order.proofs.Keeping.{IsTuple-prefix}

-- of the lists that go on from a number, those with it come first, and then the others
with_item : (size room low place : ℕ) (t : List ℕ) → slice_get (rising size room (suc low)) place ≡ Some t →
    slice_get (rising (suc size) (suc room) low) place ≡ Some (low ∷ t)
with_item size room low place t e =
    let m = slice_get-map (λ (s : List ℕ). low ∷ s) (rising size room (suc low)) place ∙ ap (option_map (λ (s : List ℕ). low ∷ s)) e in
    slice_get-append_left (map (λ s. low ∷ s) (rising size room (suc low))) (rising (suc size) room (suc low)) place
    (slice_get_within (map (λ (s : List ℕ). low ∷ s) (rising size room (suc low))) place (low ∷ t) m) ∙ m

without_item : (size room low place : ℕ) (t : List ℕ) → slice_get (rising (suc size) room (suc low)) place ≡ Some t →
    slice_get (rising (suc size) (suc room) low) (length (rising size room 0) + place) ≡ Some t
without_item size room low place t e =
    let n : length (map (λ (s : List ℕ). low ∷ s) (rising size room (suc low))) ≡ length (rising size room 0) =
    length-map (rising size room (suc low)) (λ (s : List ℕ). low ∷ s) ∙ length-rising size room (suc low) ∙ sym (length-rising size room 0) in
    ap (λ (k : ℕ). slice_get (rising (suc size) (suc room) low) (k + place)) (sym n)
    ∙ slice_get-append_right (map (λ s. low ∷ s) (rising size room (suc low))) (rising (suc size) room (suc low)) place
    ∙ e

room-same : (items low : ℕ) → items - 1 - low ≡ items - (low + 1)
room-same items low = omega arith

-- What a walk to the list at a place has found once it comes to an item: the first items, how many are lacking, and the place
-- of the rest among the lists that go on from here.
pub record Leads (items size place : ℕ) (t : List ℕ) (lacking rest item : ℕ) : Type 0 where
  pub few : lacking ≤ size
  pub within : rest < length (rising lacking (items - item) item)
  pub carried : (u : List ℕ) → slice_get (rising lacking (items - item) item) rest ≡ Some u → slice_get (rising size items 0) place ≡ Some (t ++ u)

module _ {items size place : ℕ} {t : List ℕ} {more rest item : ℕ} (h : Leads items size place t (suc more) rest item) (l : item < items) where
  pub Leads-with : rest < length (rising more (items - 1 - item) 0) → Leads items size place (t ++ item ∷ []) more rest (item + 1)
  Leads-with below =
      let n : length (rising more (items - 1 - item) 0) ≡ length (rising more (items - (item + 1)) (item + 1)) =
      ap (λ (room : ℕ). length (rising more room 0)) (room-same items item)
      ∙ length-rising more (items - (item + 1)) 0 ∙ sym (length-rising more (items - (item + 1)) (item + 1)) in
      let room : suc (items - (item + 1)) ≡ items - item = omega arith in
      let next : suc item ≡ item + 1 = omega arith in
      let few = h.few in
      record {
        few = omega arith;
        within = omega arith;
        carried = λ u e.
            let f = ap (λ (low : ℕ). slice_get (rising more (items - (item + 1)) low) rest) next ∙ e in
            let w = with_item more (items - (item + 1)) item rest u f in
            h.carried (item ∷ u) (ap (λ (r : ℕ). slice_get (rising (suc more) r item) rest) (sym room) ∙ w)
            ∙ ap (λ (s : List ℕ). Some s) (sym (append_assoc t (item ∷ []) u));
      }

  pub Leads-without : length (rising more (items - 1 - item) 0) ≤ rest → Leads items size place t (suc more) (rest - length (rising more (items - 1 - item) 0)) (item + 1)
  Leads-without most =
      let skipped = length (rising more (items - 1 - item) 0) in
      let same : length (rising more (items - 1 - item) 0) ≡ length (rising more (items - (item + 1)) 0) =
      ap (λ (room : ℕ). length (rising more room 0)) (room-same items item) in
      let room : suc (items - (item + 1)) ≡ items - item = omega arith in
      let next : suc item ≡ item + 1 = omega arith in
      let whole : length (rising (suc more) (items - item) item) ≡ length (rising more (items - (item + 1)) 0) + length (rising (suc more) (items - (item + 1)) (item + 1)) =
      ap (λ (r : ℕ). length (rising (suc more) r item)) (sym room)
      ∙ length-append (map (λ (s : List ℕ). item ∷ s) (rising more (items - (item + 1)) (suc item))) (rising (suc more) (items - (item + 1)) (suc item))
      ∙ omega (
        arith,
        length-map (rising more (items - (item + 1)) (suc item)) (λ (s : List ℕ). item ∷ s),
        length-rising more (items - (item + 1)) (suc item),
        length-rising more (items - (item + 1)) 0,
        length-rising (suc more) (items - (item + 1)) (suc item),
        length-rising (suc more) (items - (item + 1)) (item + 1),
      ) in
      let within = h.within in
      record {
        few = h.few;
        within = omega arith;
        carried = λ u e.
            let f = ap (λ (low : ℕ). slice_get (rising (suc more) (items - (item + 1)) low) (rest - skipped)) next ∙ e in
            let g = without_item more (items - (item + 1)) item (rest - skipped) u f in
            let back : length (rising more (items - (item + 1)) 0) + (rest - skipped) ≡ rest = omega arith in
            h.carried u
            (ap (λ (k : ℕ). slice_get (rising (suc more) (items - item) item) k) (sym back)
            ∙ ap (λ (r : ℕ). slice_get (rising (suc more) r item) (length (rising more (items - (item + 1)) 0) + (rest - skipped))) (sym room)
            ∙ g);
      }

pub Leads-same : {items size place : ℕ} {t s : List ℕ} {lacking more rest later item : ℕ} → s ≡ t → more ≡ lacking → later ≡ rest →
    Leads items size place t lacking rest item → Leads items size place s more later item
Leads-same {items} {size} {place} {t} {s} {lacking} {more} {rest} {later} {item} e f g h =
    let P : List ℕ → Type 0 = λ u. Leads items size place u more later item in
    let Q : ℕ → Type 0 = λ n. Leads items size place t n later item in
    let R : ℕ → Type 0 = λ n. Leads items size place t lacking n item in
    subst P (sym e) (subst Q (sym f) (subst R (sym g) h))

-- a list that the walk has come to is a tuple
IsTuple-from_place : (items size place : ℕ) (t : List ℕ) → items ≤ 511 → size ≤ 6 → slice_get (rising size items 0) place ≡ Some t → IsTuple 511 6 t
IsTuple-from_place items size place t few short e =
    let z : 0 + items ≡ items = omega arith in
    let r = IsRisingOfSize-from_member size items 0 t (member-from_slice_get (rising size items 0) place t e) in
    let P : ℕ → Type 0 = λ high. IsRising 0 high t in
    record { short = omega (arith, r.0); rising = IsRising-to_higher 0 items 511 t few (subst P z r.1) }

pub Leads-tuple : (items size place : ℕ) (t : List ℕ) (lacking rest item : ℕ) → items ≤ 511 → size ≤ 6 → Leads items size place t lacking rest item → IsTuple 511 6 t
Leads-tuple items size place t lacking rest item few short h =
    let u = get_or (rising lacking (items - item) item) rest [] in
    let e = h.carried u (slice_get-get_or (rising lacking (items - item) item) rest [] h.within) in
    IsTuple-prefix 511 6 t u (IsTuple-from_place items size place (t ++ u) few short e)

pub Leads-done : (items size place : ℕ) (t : List ℕ) (rest item : ℕ) → Leads items size place t 0 rest item → slice_get (rising size items 0) place ≡ Some t
Leads-done items size place t rest item h =
    let within : rest < 1 = h.within in
    let z : rest ≡ 0 = omega arith in
    h.carried [] (ap (λ (k : ℕ). slice_get ([] ∷ []) k) z) ∙ ap (λ (s : List ℕ). Some s) (append-nil t)

-- no number is left, so nothing is lacking
pub Leads-end : (items size place : ℕ) (t : List ℕ) (lacking rest item : ℕ) → items ≤ item → Leads items size place t lacking rest item →
    slice_get (rising size items 0) place ≡ Some t
Leads-end items size place t zero rest item l h = Leads-done items size place t rest item h
Leads-end items size place t (suc more) rest item l h =
    let none : items - item ≡ 0 = omega arith in
    let e = ap (λ (room : ℕ). length (rising (suc more) room item)) none in
    let within = h.within in
    absurd (omega arith)

-- What a walk through the items has found of a tuple's place once it comes to an item: how many of its items it has passed,
-- and how many lists come before all those that go on from here.
pub record Comes (items : ℕ) (t : List ℕ) (passed before item : ℕ) : Type 0 where
  pub passed_few : passed ≤ length t
  pub rises : IsRising item items (drop passed t)
  pub carried : (place : ℕ) → slice_get (rising (length t - passed) (items - item) item) place ≡ Some (drop passed t) →
      slice_get (rising (length t) items 0) (before + place) ≡ Some t

module _ {items : ℕ} {t : List ℕ} {passed before item : ℕ} (h : Comes items t passed before item) (l : item < items) (m : passed < length t) where
  rest_is : drop passed t ≡ get_or t passed 0 ∷ drop (passed + 1) t
  rest_is = drop_more t passed 0 m

  rest_rises : IsRising item items (get_or t passed 0 ∷ drop (passed + 1) t)
  rest_rises = subst (IsRising item items) rest_is h.rises

  pub Comes-at : get_or t passed 0 ≡ item → Comes items t (passed + 1) before (item + 1)
  Comes-at e =
      let next : suc (get_or t passed 0) ≡ item + 1 = omega arith in
      let P : ℕ → Type 0 = λ low. IsRising low items (drop (passed + 1) t) in
      let r = rest_rises in
      record {
        passed_few = omega arith;
        rises = subst P next r.2;
        carried = λ place f.
            let room : suc (items - (item + 1)) ≡ items - item = omega arith in
            let one : suc item ≡ item + 1 = omega arith in
            let count : suc (length t - (passed + 1)) ≡ length t - passed = omega arith in
            let g = ap (λ (low : ℕ). slice_get (rising (length t - (passed + 1)) (items - (item + 1)) low) place) one ∙ f in
            let w = with_item (length t - (passed + 1)) (items - (item + 1)) item place (drop (passed + 1) t) g in
            h.carried place
            (ap (λ (size : ℕ). slice_get (rising size (items - item) item) place) (sym count)
            ∙ ap (λ (r : ℕ). slice_get (rising (suc (length t - (passed + 1))) r item) place) (sym room)
            ∙ w
            ∙ ap (λ (x : ℕ). Some (x ∷ drop (passed + 1) t)) (sym e)
            ∙ ap (λ (s : List ℕ). Some s) (sym rest_is));
      }

  -- the lists that go on with an item that the tuple lacks all come before it
  pub Comes-after : (get_or t passed 0 ≡ item → ⊥) → Comes items t passed (before + length (rising (length t - passed - 1) (items - 1 - item) 0)) (item + 1)
  Comes-after n =
      let r = rest_rises in
      let above : item + 1 ≤ get_or t passed 0 = let k = r.0 in grind arith in
      let Q : List ℕ → Type 0 = λ s. IsRising (item + 1) items s in
      let rises : IsRising (item + 1) items (get_or t passed 0 ∷ drop (passed + 1) t) = (above, r.1, r.2) in
      record {
        passed_few = h.passed_few;
        rises = subst Q (sym rest_is) rises;
        carried = λ place f.
            let room : suc (items - (item + 1)) ≡ items - item = omega arith in
            let one : suc item ≡ item + 1 = omega arith in
            let count : suc (length t - passed - 1) ≡ length t - passed = omega arith in
            let g = ap (λ (size : ℕ). slice_get (rising size (items - (item + 1)) (suc item)) place) count
            ∙ ap (λ (low : ℕ). slice_get (rising (length t - passed) (items - (item + 1)) low) place) one ∙ f in
            let w = without_item (length t - passed - 1) (items - (item + 1)) item place (drop passed t) g in
            let same : length (rising (length t - passed - 1) (items - (item + 1)) 0) ≡ length (rising (length t - passed - 1) (items - 1 - item) 0) =
            ap (λ (r : ℕ). length (rising (length t - passed - 1) r 0)) (sym (room-same items item)) in
            let skipped = length (rising (length t - passed - 1) (items - 1 - item) 0) in
            let sum : before + skipped + place ≡ before + (skipped + place) = omega arith in
            ap (λ (k : ℕ). slice_get (rising (length t) items 0) k) sum
            ∙ h.carried (skipped + place)
            (ap (λ (size : ℕ). slice_get (rising size (items - item) item) (skipped + place)) (sym count)
            ∙ ap (λ (r : ℕ). slice_get (rising (suc (length t - passed - 1)) r item) (skipped + place)) (sym room)
            ∙ ap (λ (k : ℕ). slice_get (rising (suc (length t - passed - 1)) (suc (items - (item + 1))) item) (k + place)) (sym same)
            ∙ w);
      }

pub Comes-same : {items : ℕ} {t : List ℕ} {passed more before later item : ℕ} → more ≡ passed → later ≡ before →
    Comes items t passed before item → Comes items t more later item
Comes-same {items} {t} {passed} {more} {before} {later} {item} e f h =
    let P : ℕ → Type 0 = λ n. Comes items t n later item in
    let Q : ℕ → Type 0 = λ n. Comes items t passed n item in
    subst P (sym e) (subst Q (sym f) h)

-- the tuple itself comes after all that are counted
pub Comes-within : (items : ℕ) (t : List ℕ) (passed before item : ℕ) → item ≤ items → Comes items t passed before item → before < length (rising (length t) items 0)
Comes-within items t passed before item l h =
    let high : items ≡ item + (items - item) = omega arith in
    let P : ℕ → Type 0 = λ high. IsRising item high (drop passed t) in
    let p = slice_get-from_member (rising (length t - passed) (items - item) item) (drop passed t)
    (member-from_IsRisingOfSize (length t - passed) (items - item) item (drop passed t) (length-drop passed t, subst P high h.rises)) in
    let w = slice_get_within (rising (length t) items 0) (before + p.0) t (h.carried p.0 p.1) in
    omega arith

pub Comes-done : (items : ℕ) (t : List ℕ) (passed before item : ℕ) → length t ≤ passed → Comes items t passed before item →
    slice_get (rising (length t) items 0) before ≡ Some t
Comes-done items t passed before item l h =
    let none : length t - passed ≡ 0 = omega arith in
    let z : before ≡ before + 0 = omega arith in
    ap (λ (k : ℕ). slice_get (rising (length t) items 0) k) z
    ∙ h.carried 0 (ap (λ (size : ℕ). slice_get (rising size (items - item) item) 0) none ∙ ap (λ (s : List ℕ). Some s) (sym (drop_all passed t l)))

-- no number is left, so all items are passed
pub Comes-end : (items : ℕ) (t : List ℕ) (passed before item : ℕ) → items ≤ item → Comes items t passed before item →
    slice_get (rising (length t) items 0) before ≡ Some t
Comes-end items t passed before item l h = elim (cases_lt passed (length t)) [
  | inl less ↦
      let r = subst (IsRising item items) (drop_more t passed 0 less) h.rises in
      let a = r.0 in
      let b = r.1 in
      absurd (omega arith)
  | inr most ↦ Comes-done items t passed before item most h
]

-- from the place among those of its size to the rank
pub rank-from_place : (items n place : ℕ) (t : List ℕ) → slice_get (rising n items 0) place ≡ Some t → slice_get (tuples items n) (fewer items n + place) ≡ Some t
rank-from_place items zero place t e = let z : 0 + place ≡ place = omega arith in ap (λ (k : ℕ). slice_get ([] ∷ []) k) z ∙ e
rank-from_place items (suc n) place t e = slice_get-append_right (tuples items n) (rising (suc n) items 0) place ∙ e

pub rank-from_smaller : (items n size rank : ℕ) (t : List ℕ) → n ≤ size → slice_get (tuples items n) rank ≡ Some t → slice_get (tuples items size) rank ≡ Some t
rank-from_smaller items n size rank t l e =
    let z : size - n + n ≡ size = omega arith in
    let P : ℕ → Type 0 = λ m. slice_get (tuples items m) rank ≡ Some t in
    subst P z (rank-larger_size items n (size - n) rank t e)

-- fewer tuples than a rank, where each smaller size has at most so many
pub fewer-least : (items n rank : ℕ) → ((smaller : ℕ) → smaller < n → length (tuples items smaller) ≤ rank) → fewer items n ≤ rank
fewer-least items zero rank h = omega arith
fewer-least items (suc n) rank h = h n (omega arith)

-- the rank of a tuple from the number of smaller ones and its place among those of its size
pub rank-from_found : (items size : ℕ) (t chosen : List ℕ) (before place : ℕ) → IsTuple items size t → chosen ≡ t → before ≡ fewer items (length chosen) →
    slice_get (rising (length chosen) items 0) place ≡ Some chosen → slice_get (tuples items size) (before + place) ≡ Some t
rank-from_found items size t chosen before place h e f g =
    let short = h.short in
    let n = ap (λ (s : List ℕ). length s) e in
    ap (λ (k : ℕ). slice_get (tuples items size) (k + place)) f
    ∙ rank-from_smaller items (length chosen) size (fewer items (length chosen) + place) chosen (omega arith) (rank-from_place items (length chosen) place chosen g)
    ∙ ap (λ (s : List ℕ). Some s) e

-- and the tuple with a rank from its size and its place there
pub rank-from_size : (items size rank n before : ℕ) (t : List ℕ) → n ≤ size → ((smaller : ℕ) → smaller < n → length (tuples items smaller) ≤ rank) →
    before ≡ fewer items n → slice_get (rising n items 0) (rank - before) ≡ Some t → slice_get (tuples items size) rank ≡ Some t
rank-from_size items size rank n before t l least e f =
    let some = fewer-least items n rank least in
    let sum : rank ≡ fewer items n + (rank - before) = omega arith in
    ap (λ (k : ℕ). slice_get (tuples items size) k) sum
    ∙ rank-from_smaller items n size (fewer items n + (rank - before)) t l (rank-from_place items n (rank - before) t f)
