-- Names of mentions become entries of a table, one mention after another.
use Rattle.std.specs.Prelude.{None, Some, Ok}
use mathlib.Core.Path.{◌≡◌, refl, sym, ap, ◌∙◌}
use mathlib.Core.Logic.{◌⊎◌, inl, inr, ⊎_elim}
use mathlib.Core.Bool.{Bool, true, ◌||◌, or-false, or-true, or_assoc, false≢true}
use mathlib.Core.List.{List, [], ◌∷◌, ◌++◌}
use Prim.Native.Nat.{ℕ, ◌+◌, ◌-◌, ◌≤◌, ◌<◌}
use native.Mathlib.Numerals.{add-one}
use native.Mathlib.Omega.{arith}
use lib.ListN.{length, take, drop, length-drop}
use lib.Ieee.{Float}
use Rattle.stream.specs.Payload.{payload}
use Rattle.stream.specs.Inner.Payload.{room}
use Rattle.stream.specs.Laws.Payload.{payload-length}
use Rattle.records.specs.Records.{bytes_at}
use Rattle.records.specs.Laws.Tests.{or_cases}
use Rattle.scene.specs.Laws.Rising.{same_eq}
use Rattle.names.specs.Inner.Table.{Table, NewName, Unmarked, Contains, Inserted}
use Rattle.register.specs.declared.mentions.Cursor.{Cursor}
use Rattle.register.specs.declared.mentions.Mention as code-mention
use Rattle.register.specs.Inner.Mentions.{Mention, mentions_at, mention_by, more_of, MentionFits, Follows, Asked}
use Rattle.register.specs.Inner.Gathered.{named, among, Added}
use Rattle.register.proofs.Marks.{same_self}
use Rattle.register.proofs.ReadMentions.{next_of}

-- ---- one mention
module _ {more : ℕ} {l t : List ℕ} {n : ℕ} {m : Mention} where
  pub added_none : m.lat ≡ None → Table more l t n → Added more l t t n n m
  added_none e h =
      record {
        count = omega arith;
        table = h;
        unmarked = λ u. u;
        new = λ x k. absurd (false≢true (rw e at k));
        old = λ x i. i;
        only = λ x i. inl i;
      }

  pub added_some : {t' : List ℕ} {r : ℕ} (f : Float) → m.lat ≡ Some f → Inserted more l t t' n r m.name → Added more l t t' n r m
  added_some {t'} {r} f e h =
      record {
        count = h.count;
        table = h.table;
        unmarked = h.unmarked;
        new = λ x k. new_at x (same_eq m.name x (rw e at k));
        old = h.old;
        only = λ x i. ⊎_elim inl (λ p. inr (is-named x p)) (h.only x i);
      }
    where
      new_at : (x : List ℕ) → m.name ≡ x → Contains more l t' r x
      new_at x p = rw p at h.new

      is-named : (x : List ℕ) → x ≡ m.name → named x m m.lat ≡ true
      is-named x p = rw (e, p) (same_self m.name)

module _ (s : List ℕ) (more : ℕ) (m : code-mention.Mention) (h : MentionFits s more m) where
  pub insertable : room s < 33554432 → NewName more (payload s) (m.at - 1) m.len
  insertable r =
      record {
        low = omega arith;
        stands = record { least = omega arith; fits = omega (arith, payload-length s) };
        counted = sym h.prefix;
        short = omega arith;
      }

  pub added_by : {t t' : List ℕ} {n r : ℕ} (f : Float) → m.lat ≡ Some f → Inserted more (payload s) t t' n r (bytes_at (payload s) (m.at - 1 + 1) m.len)
      → Added more (payload s) t t' n r (mention_by (payload s) m)
  added_by f e i =
      let at : m.at - 1 + 1 ≡ m.at = omega (arith, h.behind) in
      added_some f e (rw at at i)

-- ---- lists
module _ {A : Type 0} (k : ℕ) (xs ys : List A) (m : A) (e : drop k xs ≡ m ∷ ys) where
  pub next_within : k < length xs
  next_within = omega (arith, length-drop k xs, ap length e)

  pub next-take : take (k + 1) xs ≡ take k xs ++ m ∷ []
  next-take = rw add-one (next_of m ys xs k e).0

  pub next-drop : drop (k + 1) xs ≡ ys
  next-drop = rw add-one (next_of m ys xs k e).1

pub among_snoc : (x : List ℕ) (ms : List Mention) (m : Mention) → among x (ms ++ m ∷ []) ≡ (among x ms || named x m m.lat)
unfolding among
among_snoc x [] m = or-false (named x m m.lat)
among_snoc x (a ∷ ms) m = rw (among_snoc x ms m) (sym (or_assoc (named x a a.lat) (among x ms) (named x m m.lat)))

-- ---- the first `count` mentions from c on are in the table
pub record Fills (s : List ℕ) (lons : Bool) (c at : Cursor) (n count : ℕ) (t starts : List ℕ) : Type 0 where
  pub follows : Follows s lons at starts
  pub table : Table (more_of lons) (payload s) t n
  pub unmarked : Unmarked t n
  pub enough : count ≤ length (mentions_at (payload s) lons c)
  pub rest : mentions_at (payload s) lons at ≡ drop count (mentions_at (payload s) lons c)
  pub all : (x : List ℕ) → among x (take count (mentions_at (payload s) lons c)) ≡ true → Contains (more_of lons) (payload s) t n x
  pub only : (x : List ℕ) → Contains (more_of lons) (payload s) t n x → among x (take count (mentions_at (payload s) lons c)) ≡ true
  pub onward : c.q + count ≤ at.q
  pub fits : count ≡ 0 ⊎ (c.q < room s)
  pub few : n ≤ count

nothing_in : (more : ℕ) (l t x : List ℕ) → Contains more l t 0 x → ⊥
nothing_in more l t x i = omega (arith, i.within)

pub fills_none : {s : List ℕ} {lons : Bool} {c : Cursor} {t starts : List ℕ} → Follows s lons c starts → Fills s lons c c 0 0 t starts
unfolding among
fills_none {s} {lons} {c} {t} f =
    record {
      follows = f;
      table = record { fits = omega arith; stands = λ i h. absurd (omega (arith, h)); rises = λ i j h k. absurd (omega (arith, k)) };
      unmarked = λ i h. absurd (omega (arith, h));
      enough = omega arith;
      rest = refl;
      all = λ x h. absurd (false≢true h);
      only = λ x i. absurd (nothing_in (more_of lons) (payload s) t x i);
      onward = omega arith;
      fits = inl refl;
      few = omega arith;
    }

module _ {s : List ℕ} {lons : Bool} {c at : Cursor} {n count : ℕ} {t starts : List ℕ} (h : Fills s lons c at n count t starts) where
  module _ (m : code-mention.Mention) {starts' : List ℕ} (a : Asked s lons at (Ok m) starts') where
    left : drop count (mentions_at (payload s) lons c) ≡ mention_by (payload s) m ∷ mentions_at (payload s) lons m.next
    left = sym h.rest ∙ a.lists

    pub fills_more : {t' : List ℕ} {r : ℕ} → Added (more_of lons) (payload s) t t' n r (mention_by (payload s) m) → Fills s lons c m.next r (count + 1) t' starts'
    fills_more {t'} {r} d =
        record {
          follows = a.follows;
          table = d.table;
          unmarked = d.unmarked h.unmarked;
          enough = omega (arith, next_within count (mentions_at (payload s) lons c) _ _ left);
          rest = sym (next-drop count (mentions_at (payload s) lons c) _ _ left);
          all = λ x p. ⊎_elim (λ q. d.old x (h.all x q)) (d.new x) (or_cases (among x (take count (mentions_at (payload s) lons c))) _ (sym (snoc x) ∙ p));
          only = λ x i. snoc x ∙ either x (d.only x i);
          onward = omega (arith, h.onward, a.first.more);
          fits = inr (omega (arith, h.onward, a.first.more, a.first.fits));
          few = omega (arith, h.few, d.count.1);
        }
      where
        snoc : (x : List ℕ) → among x (take (count + 1) (mentions_at (payload s) lons c))
            ≡ (among x (take count (mentions_at (payload s) lons c)) || named x (mention_by (payload s) m) (mention_by (payload s) m).lat)
        snoc x = rw (next-take count (mentions_at (payload s) lons c) _ _ left) (among_snoc x _ _)

        either : (x : List ℕ) → Contains (more_of lons) (payload s) t n x ⊎ (named x (mention_by (payload s) m) (mention_by (payload s) m).lat ≡ true)
            → (among x (take count (mentions_at (payload s) lons c)) || named x (mention_by (payload s) m) (mention_by (payload s) m).lat) ≡ true
        either x (inl i) = rw (h.only x i) refl
        either x (inr p) = rw p (or-true (among x (take count (mentions_at (payload s) lons c))))
