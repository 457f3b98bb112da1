-- Laws of events apply onto a sheet. Assumes nothing.
use Rattle.std.specs.Prelude.{ℕ, ◌≡◌, refl, Bool, true, false, List, [], ◌∷◌, ◌++◌, map, eqb, Float, Err}
use Rattle.std.proofs.Common.{sym, ap, ◌∙◌, arith, ne_eqb, eqb-true}
use Rattle.std.proofs.lemmas.Bool.{eqb-false}
use Rattle.values.specs.Inner.Refusals.{number_of}
use Rattle.values.specs.declared.refusal.Refusal.{Refusal}
use Rattle.values.specs.declared.refusal.Refusal.TheVariants.{Size, Check, Layout, Limit, Flatten, Rescale, Frame, Outside, TooMany, NoAnchor, Degenerate, Scale, ViewScale, MaxScale, WorkRoom, PositionRoom, FeatureRoom, WarningRoom, Step, KindTable}
use Rattle.budget.specs.declared.Budget.{Budget}
use Rattle.densify.specs.Densify.{GrantedDraw, Made}
use Rattle.strokes.specs.Strokes.{Event, drew, Trace, no_events, and_then_trace, draws_trace}
use Rattle.strokes.specs.Space.{Output, pick_output, apply, apply_all}
use Rattle.strokes.specs.Inner.Space.{state_by, output_by, Fits, Applied}

pub play_append : (es fs : List Event) (t : Output) → apply_all (es ++ fs) t ≡ apply_all fs (apply_all es t)
unfolding apply_all
play_append [] fs t = refl
play_append (e ∷ es) fs t = play_append es fs (pick_output (eqb t.number 0) (apply e t) t)

-- once something has lacked room, nothing more happens
pub stuck : (es : List Event) (t : Output) → eqb t.number 0 ≡ false → apply_all es t ≡ t
unfolding apply_all
stuck [] t h = refl
stuck (e ∷ es) t h = rw h (stuck es t h)

pick_same : (b : Bool) (t : Output) → pick_output b t t ≡ t
pick_same true t = refl
pick_same false t = refl

-- draws need no space
pub draws_still : (ds : List GrantedDraw) (t : Output) → apply_all (map drew ds) t ≡ t
unfolding apply_all apply
draws_still [] t = refl
draws_still (d ∷ ds) t = ap (apply_all (map drew ds)) (pick_same (eqb t.number 0) t) ∙ draws_still ds t

-- nothing happens
pub applied_no_events : (t : Output) (b : Budget) → Fits t b → Applied (no_events b) t t b
unfolding apply_all
applied_no_events t b h =
    record { number = refl; same = λ e. refl; after = λ e. refl; work = refl; positions = refl; features = refl; warnings = refl; fits = h }

-- a sheet on which something has lacked room already
pub applied_stuck : (a : Trace) (t : Output) (b : Budget) → (t.number ≡ 0 → ⊥) → Fits t b → Applied a t t b
applied_stuck a t b n h =
    let s = stuck a.events t (ne_eqb t.number 0 n) in
    record {
      number = ap (λ (u : Output). u.number) (sym s);
      same = λ e. absurd (n e);
      after = λ e. absurd (n e);
      work = refl;
      positions = refl;
      features = refl;
      warnings = refl;
      fits = h;
    }

-- one after the other
module _ {a : Trace} {t u v : Output} {b c : Budget} (f : Budget → Trace) (one : Applied a t u b) (two : Applied (f b) u v c) where
  abbrev es : List Event
  es = a.events

  go_on : u.number ≡ 0 → Applied (and_then_trace a f) t v c
  go_on e =
      let s = one.same e in
      let k = one.after e in
      record {
        number = two.number ∙ rw (s, k, play_append es (f a.after).events t);
        same = λ z. two.same z ∙ rw (s, k, play_append es (f a.after).events t);
        after = λ z. two.after z ∙ ap (λ (x : Budget). (f x).after) k;
        work = two.work ∙ one.work;
        positions = two.positions ∙ one.positions;
        features = two.features ∙ one.features;
        warnings = two.warnings ∙ one.warnings;
        fits = two.fits;
      }

  stop : (u.number ≡ 0 → ⊥) → Applied (and_then_trace a f) t v c
  stop n =
      let w = apply_all es t in
      let m : (w.number ≡ 0 → ⊥) = λ z. n (one.number ∙ z) in
      let still : v.number ≡ u.number = two.number ∙ ap (λ (x : Output). x.number) (stuck (f b).events u (ne_eqb u.number 0 n)) in
      record {
        number =
            still ∙ one.number
            ∙ ap (λ (x : Output). x.number) (sym (play_append es (f a.after).events t ∙ stuck (f a.after).events w (ne_eqb w.number 0 m)));
        same = λ z. absurd (n (sym still ∙ z));
        after = λ z. absurd (n (sym still ∙ z));
        work = two.work ∙ one.work;
        positions = two.positions ∙ one.positions;
        features = two.features ∙ one.features;
        warnings = two.warnings ∙ one.warnings;
        fits = two.fits;
      }

  pub applied_then : Applied (and_then_trace a f) t v c
  applied_then = go (eqb u.number 0) refl
    where
      go : (x : Bool) → eqb u.number 0 ≡ x → Applied (and_then_trace a f) t v c
      go true e = go_on (eqb-true u.number 0 e)
      go false e = stop (eqb-false u.number 0 e)

-- ---- answers: once something lacks room, nothing of the slices counts as used
refused : (e : Refusal) → eqb (number_of e) 0 ≡ false
refused Size = refl
refused Check = refl
refused Layout = refl
refused Limit = refl
refused Flatten = refl
refused Rescale = refl
refused Frame = refl
refused Outside = refl
refused TooMany = refl
refused NoAnchor = refl
refused Degenerate = refl
refused Scale = refl
refused ViewScale = refl
refused MaxScale = refl
refused WorkRoom = refl
refused PositionRoom = refl
refused FeatureRoom = refl
refused WarningRoom = refl
refused Step = refl
refused KindTable = refl

pub refused_some : (e : Refusal) → number_of e ≡ 0 → ⊥
refused_some e = eqb-false (number_of e) 0 (refused e)

pub applied_err : {a : Trace} {t u : Output} {b : Budget} (e : Refusal) → u.number ≡ number_of e → Applied a t u b
    → Applied a t (output_by u.work u.positions u.features u.warnings (Err e)) (state_by (Err e)).budget
applied_err e is h =
    record {
      number = sym is ∙ h.number;
      same = λ z. absurd (refused_some e z);
      after = λ z. absurd (refused_some e z);
      work = h.work;
      positions = h.positions;
      features = h.features;
      warnings = h.warnings;
      fits = record { positions = omega arith; features = omega arith; warnings = omega arith; left = omega arith };
    }

-- and nothing is applied behind it
pub applied_refused : (a : Trace) (e : Refusal) {w : ℕ} {p : List Float} {f v : List ℕ}
    → Applied a (output_by w p f v (Err e)) (output_by w p f v (Err e)) (state_by (Err e)).budget
applied_refused a e =
    applied_stuck a _ _ (refused_some e) (record { positions = omega arith; features = omega arith; warnings = omega arith; left = omega arith })

pub applied_stop : {a : Trace} {t : Output} {w : ℕ} {p : List Float} {f v : List ℕ} (e : Refusal) (g : Budget → Trace)
    → Applied a t (output_by w p f v (Err e)) (state_by (Err e)).budget
    → Applied (and_then_trace a g) t (output_by w p f v (Err e)) (state_by (Err e)).budget
applied_stop e g h =
    applied_then g h (applied_stuck (g (state_by (Err e)).budget) _ _ (refused_some e) h.fits)

-- a producer's draws before it
pub applied_drawn : (m : Made) (f : Budget → Trace) {t u : Output} {b : Budget} → Applied (f m.after) t u b → Applied (and_then_trace (draws_trace m) f) t u b
applied_drawn m f {t} {u} {b} h =
    let e : apply_all (map drew m.draws ++ (f m.after).events) t ≡ apply_all (f m.after).events t =
    play_append (map drew m.draws) (f m.after).events t ∙ ap (apply_all (f m.after).events) (draws_still m.draws t) in
    record {
      number = h.number ∙ ap (λ (x : Output). x.number) (sym e);
      same = λ z. h.same z ∙ sym e;
      after = h.after;
      work = h.work;
      positions = h.positions;
      features = h.features;
      warnings = h.warnings;
      fits = h.fits;
    }

-- ---- loops: whatever plays the rest from here has apply the whole
abbrev pub Onward : Trace → Output → Output → Trace → Type 0
Onward whole t u rest = (v : Output) (c : Budget) → Applied rest u v c → Applied whole t v c

pub onward_next : {whole a : Trace} {t u v : Output} {b : Budget} (f : Budget → Trace) → Onward whole t u (and_then_trace a f) → Applied a u v b → Onward whole t v (f b)
onward_next f l one w c h = l w c (applied_then f one h)
