-- What an answer of `find` says: of the records that a question asks for, each read by f, and of where the one that was
-- found lies.
use Rattle.std.specs.Prelude.{◌≡◌, true, false, List, ◌∷◌, map, ℕ, ◌+◌, ◌*◌, ◌≤◌, ◌<◌, length, drop, get_or, T, Some, Result, Ok}
use Rattle.std.specs.Result.{IfOk}
use Rattle.std.proofs.Math.Path.{refl}
use Rattle.std.proofs.Common.{sym, ap, subst, ◌∙◌, ⊎_elim, eq-zero-or-pos, arith, get_or-drop}
use borrow.Author.Tests.{eq-eqb}
use Rattle.stream.specs.Numbers.{u16_at}
use Rattle.stream.specs.Laws.Numbers.{u16_drop}
use Rattle.stream.specs.Payload.{payload}
use Rattle.stream.specs.Inner.Payload.{room, rest}
use Rattle.stream.specs.Laws.Payload.{payload-length}
use Rattle.records.specs.declared.records.Record.{Record}
use Rattle.records.specs.declared.records.Record.TheVariants.{Rescale, Option as OptionRecord, Feature, Variable, Place, Item, Points, Path}
use Rattle.records.specs.declared.search.Hit.{Hit}
use Rattle.records.specs.Records.{option_width}
use Rattle.records.specs.Search.{key_of, search_step_of}
use Rattle.records.specs.Inner.Hits.{records_at, RecordAt, hits_of, end_of, SkipsTo, OptionValue}
use Rattle.records.specs.Walk.{tag_of}
use Rattle.records.specs.Laws.Records.{Fields, stands}
use Rattle.records.specs.Laws.Search.{search_got, passed_over, standing_less, standing_fits, standing_tells, choice_within, NameFound, PointsFound, PathFound}
use Rattle.scene.specs.Scene.{first}

-- an answer that says of itself that there is none
pub nothing : {A : Type 0} → false ≡ true → A
nothing e = absurd (subst T (sym e) tt)

-- a record of tag t and key k was found from p on
pub record One (s : List ℕ) (p t k : ℕ) (h : Hit) : Type 0 where
  pub all : records_at (payload s) p t k ≡ drop h.at (payload s) ∷ records_at (payload s) h.next t k
  pub stands : RecordAt (payload s) t k h.at h.next
  pub from : p ≤ h.at
  pub more : h.at < h.next
  pub fits : h.next ≤ room s

-- what `find` ensures
abbrev pub Answer : List ℕ → ℕ → ℕ → ℕ → Result Hit ℕ → Type 0
Answer s p t k r = record {
  key_value : records_at (payload s) p t k ≡ hits_of (payload s) t k r;
  record_at : IfOk r (λ h. RecordAt (payload s) t k h.at h.next);
  p_le_at : p ≤ end_of r;
  skips_to : SkipsTo (payload s) t p (end_of r);
}

pub one_found : {s : List ℕ} {p t k : ℕ} {h : Hit} → Answer s p t k (Ok h) → One s p t k h
one_found {s = s} a = let o = a.record_at in
    record { all = a.key_value; stands = o; from = a.p_le_at; more = standing_less o; fits = omega (arith, standing_fits o, payload-length s) }

module _ {s : List ℕ} {p t k : ℕ} {h : Hit} (o : One s p t k h) where
  -- it is the first from its own position on, too
  pub found_again : records_at (payload s) h.at t k ≡ drop h.at (payload s) ∷ records_at (payload s) h.next t k
  unfolding search_step_of
  found_again = let r = o.stands in search_got (payload s) h.at t k r.got ∙ rw (eq-eqb (tag_of r.is) t r.tag, eq-eqb (key_of r.is) k r.key, r.ends) refl

  -- records of greater tags stand behind it
  pub beyond : SkipsTo (payload s) t p h.at → SkipsTo (payload s) t p h.next
  beyond a u j m n = let r = o.stands in a u j m n ∙ rw r.ends (passed_over (payload s) h.at u j r.got (omega (arith, r.tag)) n)

  module _ {A : Type 0} (f : List ℕ → A) {x : A} (e : f (drop h.at (payload s)) ≡ x) where
    pub one_listed : map f (records_at (payload s) p t k) ≡ x ∷ map f (records_at (payload s) h.next t k)
    one_listed = rw (o.all, ← e) refl

    pub one-first : Some x ≡ first f (records_at (payload s) p t k)
    one-first = rw (o.all, ← e) refl

  -- ---- points: a count and 16 bytes for each
  module _ (f : PointsFound (drop h.at (payload s)) k h.at h.next) where
    pub points_end_lem : {n : ℕ} → n ≡ u16_at (payload s) (h.at + 2) → h.at + 4 + 16 * n ≤ room s
    points_end_lem e = rw (e, ← u16_drop h.at (payload s) 2) (omega arith)

  -- ---- a path, of cubics or of points
  module _ (f : PathFound (drop h.at (payload s)) k h.at h.next) where
    module _ {x : ℕ} (e : x ≡ get_or (payload s) (h.at + 3) 0) where
      form_is : x ≡ get_or (drop h.at (payload s)) 3 0
      form_is = rw get_or-drop e

      pub cubics_end : {n : ℕ} → x ≡ 0 → n ≡ u16_at (payload s) (h.at + 20) → h.at + 22 + 48 * n ≤ room s
      cubics_end z g = rw (g, ← u16_drop h.at (payload s) 20) (omega (arith, f.cubics (omega (arith, form_is))))

      pub polyline-ends : {n : ℕ} → (x ≡ 0 → ⊥) → n ≡ u16_at (payload s) (h.at + 4) → h.at + 6 + 16 * n ≤ room s
      polyline-ends z g = rw (g, ← u16_drop h.at (payload s) 4) (omega (arith, f.points (λ y. z (omega (arith, form_is)))))

-- ---- what is read first of points and of a path, within the payload
module _ (s : List ℕ) {p k : ℕ} {h : Hit} where
  pub points_lie : Answer s p 7 k (Ok h) → h.at + 4 ≤ room s
  points_lie a = omega (arith, one_found a, standing_tells a.record_at)

  module _ (a : Answer s p 8 k (Ok h)) where
    pub path_lies : h.at + 6 ≤ room s
    path_lies =
        let f = standing_tells a.record_at in
        let o = one_found a in
        ⊎_elim (λ e. omega (arith, o.fits, f.cubics e)) (λ e. omega (arith, o.fits, f.points (λ z. omega arith))) (eq-zero-or-pos (get_or (drop h.at (payload s)) 3 0))

    pub cubics_lie : {x : ℕ} → x ≡ get_or (rest s 0) (h.at + 3) 0 → x ≡ 0 → h.at + 22 ≤ room s
    unfolding rest
    cubics_lie e z = omega (arith, cubics_end (one_found a) (standing_tells a.record_at) e z refl)

-- ---- an option
-- a frame is one of two
frame_low : (b : List ℕ) (r : Record) → Fields b r → tag_of r ≡ 2 → key_of r ≡ 1 → get_or b 2 0 ≤ 1
frame_low b Rescale f t k = absurd (omega arith)
frame_low b (OptionRecord o) f t k = f.frame k
frame_low b (Feature n) f t k = absurd (omega arith)
frame_low b (Variable n) f t k = absurd (omega arith)
frame_low b (Place n) f t k = absurd (omega arith)
frame_low b (Item a g n m) f t k = absurd (omega arith)
frame_low b (Points r n) f t k = absurd (omega arith)
frame_low b (Path r c g n) f t k = absurd (omega arith)

pub frame_bound : {l : List ℕ} {p : ℕ} → OptionValue l 1 p → get_or l p 0 ≤ 1
frame_bound {l} o = let r = o.stands in
    rw (o.behind, ← get_or-drop o.at l 2 0) (frame_low (drop o.at l) r.is (stands (drop o.at l) r.got).fields r.tag r.key)

module _ {l : List ℕ} {k p : ℕ} (o : OptionValue l k p) where
  pub option_fits_lem : p + option_width k ≤ length l
  option_fits_lem = omega (arith, choice_within o.stands, o.behind)

  -- what g reads at a position of the payload
  pub option-first : {A : Type 0} (g : List ℕ → ℕ → A) → g (drop o.at l) 2 ≡ g l (o.at + 2) → Some (g l p) ≡ first (λ b. g b 2) (records_at l 0 2 k)
  option-first g e = rw (o.all, o.behind) (ap Some (sym e))

-- ---- a record that begins with a name, of n bytes, and has so many besides
pub record Named (s : List ℕ) (p t : ℕ) (h : Hit) (more n : ℕ) : Type 0 where
  pub one : One s p t 0 h
  pub is : n ≡ get_or (payload s) (h.at + 1) 0
  pub short : n ≤ 31
  pub ends : h.next ≡ h.at + more + n

module _ {s : List ℕ} {p t more : ℕ} {h : Hit} (o : One s p t 0 h) (f : NameFound (drop h.at (payload s)) h.at h.next more) where
  pub named : {n : ℕ} → n ≡ get_or (payload s) (h.at + 1) 0 → Named s p t h more n
  named e = record { one = o; is = e; short = rw (e, ← get_or-drop h.at (payload s) 1 0) f.short; ends = rw (e, ← get_or-drop h.at (payload s) 1 0) f.ends }
