-- The loops over a scene's paths and items: what is done, one turn, and how they end. Assumes nothing.
use Rattle.std.specs.Prelude.{ℕ, ◌+◌, ◌≤◌, ◌<◌, ◌≡◌, Bool, true, false, not, cond, List, length, Float, Option, None, Some, option_map, Result, Ok, Err, IfOk}
use Rattle.std.proofs.Math.Numerals.{add-one}
use Rattle.std.proofs.Common.{arith, subst, ◌∙◌}
use Rattle.std.proofs.Math.Path.{refl}
use borrow.Author.Tests.{not-true, not-false}
use Rattle.values.specs.declared.refusal.Refusal.{Refusal}
use Rattle.records.specs.Inner.Numbers.{kind_of}
use Rattle.scene.specs.declared.readers.Item.{Item}
use Rattle.scene.specs.declared.readers.Path.{Path}
use Rattle.scene.specs.Scene.{DrawnPath, DrawnItem}
use Rattle.values.specs.declared.Point.{Point}
use Rattle.scene.specs.Inner.Answers.{paths_from, paths_by, item_by, items_at, items_by, PathWithin}
use Rattle.budget.specs.declared.Budget.{Budget}
use Rattle.densify.specs.Densify.{path_points_of}
use Rattle.densify.specs.Inner.Written.{drawn_by, PathFits}
use Rattle.strokes.specs.declared.workspace.Workspace.{Workspace}
use Rattle.strokes.specs.declared.state.Ctx.{Ctx}
use Rattle.strokes.specs.declared.state.Props.{Props}
use Rattle.strokes.specs.declared.state.State.{State}
use Rattle.convert.specs.Convert.{first_path, later_paths, outline_of, path_of, with_part, paths_of, item_of, items_of, spent_of, convert_of}
use Rattle.strokes.specs.Strokes.{Trace, no_events, one_event, warned, and_then_trace, polyline_or_polygon_of}
use Rattle.strokes.specs.Space.{Output}
use Rattle.convert.specs.Inner.Outlines.{outlines_from}
use Rattle.strokes.specs.Inner.Space.{state_by, output_by, most, Fits, Applied, Bounds, Loads, LoadsPath, outline_by}
use Rattle.strokes.specs.Laws.Applying.{applied_no_events, applied_then, applied_stop, applied_drawn, Onward, onward_next}
use Rattle.strokes.specs.Laws.Loading.{loads_ready}
use Rattle.strokes.specs.Laws.Polygons.{shape_lacks}

-- ---- one path
pub path_fits_lem : {n q : ℕ} {r : Path} → PathWithin n q r → PathFits n r
path_fits_lem h = record { start = h.start; cubics = h.cubics; points = h.points }

module _ (w w' : List Float) (tol : Float) (path : DrawnPath) (b : Budget) where
  -- where its points end, once it is laid out
  path_bounds : {l : Workspace} (outline : Option DrawnPath) → LoadsPath w w' tol path outline b (Ok l) → Bounds l (length w') × (l.budget.left ≤ most)
  path_bounds None h = loads_ready (Ok _) h
  path_bounds (Some o) h = loads_ready (Ok _) h

  path-kept : (r : Result Workspace Refusal) (outline : Option DrawnPath) → LoadsPath w w' tol path outline b r → length w' ≡ length w
  path-kept r None h = h.kept
  path-kept r (Some o) h = h.kept

  -- what drawing it asks for
  pub path-ready : (r : Result Workspace Refusal) (outline : Option DrawnPath) → LoadsPath w w' tol path outline b r → {positions : List Float} {features warnings : List ℕ} {st : State}
      → Fits (output_by (length w) positions features warnings (Ok st)) st.budget
      → IfOk r (λ l. Bounds l (length w') × (l.budget.left ≤ most)) × Fits (output_by (length w') positions features warnings (Ok st)) st.budget
  path-ready (Ok l) outline h fits = (path_bounds outline h, rw (path-kept (Ok l) outline h) fits)
  path-ready (Err e) outline h fits = (tt, rw (path-kept (Err e) outline h) fits)

-- laid out or without room for it, then drawn
path-drawn : (cx : Ctx) (p : Props) (path : DrawnPath) (outline : Option DrawnPath) (b : Budget) (w w' : List Float) (r : Result Workspace Refusal) {t u : Output} {c : Budget}
    → LoadsPath w w' cx.flatten path outline b r
    → ((v : List Float) (ps : List Point) (o : Option (List Point)) (d : Budget) → Loads v w' path.closed ps o d r → Applied (polyline_or_polygon_of cx p path.closed ps o d) t u c)
    → Applied (path_of cx p path outline b) t u c
unfolding path_of outline_of
path-drawn cx p path None b w w' r h draw =
    let m = path_points_of cx.flatten path b in
    applied_drawn m (λ r. outline_of cx p path.closed m.points None r) (draw w m.points None m.after h)
path-drawn cx p path (Some o) b w w' r h draw =
    let m = path_points_of cx.flatten path b in
    let n = path_points_of cx.flatten o m.after in
    applied_drawn m (λ r. outline_of cx p path.closed m.points (Some o) r)
    (applied_drawn n (λ r. polyline_or_polygon_of cx p path.closed m.points (Some n.points) r) (draw w m.points (Some n.points) n.after h))

module _ (cx : Ctx) (path : DrawnPath) (outline : Option DrawnPath) (w w' : List Float) {positions : List Float} {features warnings : List ℕ} (st : State) where
  pub path_applied : {p props : Props} (r : Result Workspace Refusal) {u : Output} {c : Budget} → LoadsPath w w' cx.flatten path outline st.budget r → props ≡ p
      → ((v : List Float) (ps : List Point) (o : Option (List Point)) (d : Budget) → Loads v w' path.closed ps o d r
      → Applied (polyline_or_polygon_of cx props path.closed ps o d) (output_by (length w') positions features warnings (Ok st)) u c)
      → Applied (path_of cx p path outline st.budget) (output_by (length w) positions features warnings (Ok st)) u c
  path_applied r h e draw =
      rw (← e, ← path-kept w w' cx.flatten path st.budget r outline h) (path-drawn cx _ path outline st.budget w w' r h draw)

  -- without room for its points nothing is written, and the refusal stands
  pub path_lacks : (p : Props) (e : Refusal) → LoadsPath w w' cx.flatten path outline st.budget (Err e) → Fits (output_by (length w) positions features warnings (Ok st)) st.budget
      → Applied (path_of cx p path outline st.budget) (output_by (length w) positions features warnings (Ok st))
      (output_by (length w') positions features warnings (Err e)) (state_by (Err e)).budget
  path_lacks p e h fits =
      path_applied (Err e) h refl
      (λ v ps o d lays. shape_lacks cx p lays refl refl {a = st.budget} (rw (path-kept w w' cx.flatten path st.budget (Err e) outline h) fits))

-- ---- a loop: i are done, which lie before q; what plays the rest from sheet t on plays the whole from t₀ on
pub record Loop (whole : Trace) (t₀ t : Output) (rest : Trace) (b : Budget) (q i : ℕ) : Type 0 where
  pub onward : Onward whole t₀ t rest
  pub fits : Fits t b
  pub work : t.work ≡ t₀.work
  pub positions : length t.positions ≡ length t₀.positions
  pub features : length t.features ≡ length t₀.features
  pub warnings : length t.warnings ≡ length t₀.warnings
  pub short : i ≤ q

pub none_done : (a : Trace) (t : Output) (b : Budget) (q : ℕ) → Fits t b → Loop a t t a b q 0
none_done a t b q h =
    record { onward = λ v c p. p; fits = h; work = refl; positions = refl; features = refl; warnings = refl; short = omega arith }

module _ {whole rest : Trace} {t₀ t : Output} {b : Budget} {q i : ℕ} (d : Loop whole t₀ t rest b q i) where
  -- nothing is left
  all_done : rest ≡ no_events b → Applied whole t₀ t b
  all_done e = d.onward t b (rw e (applied_no_events t b d.fits))

  -- what comes next lacks room
  stops : {a : Trace} {n : ℕ} {ps : List Float} {fs v : List ℕ} (e : Refusal) (f : Budget → Trace) → rest ≡ and_then_trace a f
      → Applied a t (output_by n ps fs v (Err e)) (state_by (Err e)).budget → Applied whole t₀ (output_by n ps fs v (Err e)) (state_by (Err e)).budget
  stops e f is one = d.onward _ _ (rw is (applied_stop e f one))

  one-done : {a : Trace} {u : Output} {c : Budget} {next : ℕ} (f : Budget → Trace) → rest ≡ and_then_trace a f → Applied a t u c → q < next → Loop whole t₀ u (f c) c next (i + 1)
  one-done f e one more =
      record {
        onward = onward_next f (subst (Onward whole t₀ t) e d.onward) one;
        fits = one.fits;
        work = one.work ∙ d.work;
        positions = one.positions ∙ d.positions;
        features = one.features ∙ d.features;
        warnings = one.warnings ∙ d.warnings;
        short = omega (arith, d.short);
      }

-- ---- the paths of an item
head-given : (l : List ℕ) (outline : Option Path) → first_path (paths_by l 1 outline) ≡ outline_by l outline
head-given l None = refl
head-given l (Some o) = refl

tail-given : (l : List ℕ) (outline : Option Path) → later_paths (paths_by l 1 outline) ≡ outlines_from l (option_map (λ (r : Path). r.next) outline)
tail-given l None = refl
tail-given l (Some o) = refl

module _ (cx : Ctx) (p : Props) (many : Bool) (l : List ℕ) (outlines : List DrawnPath) {whole : Trace} {t₀ t : Output} {b : Budget} {q i : ℕ}
    (d : Loop whole t₀ t (paths_of cx p many i (paths_from l q 0) outlines b) b q i) where
  pub all_paths : paths_from l q 0 ≡ paths_by l 0 None → Applied whole t₀ t b
  unfolding paths_of
  all_paths e = all_done d (rw e refl)

  module _ (path : Path) (e : paths_from l q 0 ≡ paths_by l 0 (Some path)) (outline : Option Path) (k : outlines ≡ paths_by l 1 outline) where
    abbrev later : Budget → Trace
    later r = paths_of cx p many (i + 1) (paths_from l path.next 0) (outlines_from l (option_map (λ (o : Path). o.next) outline)) r

    next_is : paths_of cx p many i (paths_from l q 0) outlines b ≡ and_then_trace (path_of cx (with_part p (cond many (i + 1) 0)) (drawn_by l path) (outline_by l outline) b) later
    unfolding paths_of
    next_is = rw (e, k, head-given, tail-given, add-one) refl

    pub one-path : q < path.next → {u : Output} {c : Budget}
        → Applied (path_of cx (with_part p (cond many (i + 1) 0)) (drawn_by l path) (outline_by l outline) b) t u c
        → Loop whole t₀ u (later c) c path.next (i + 1)
    one-path more one = one-done d later next_is one more

    pub path-stops : {n : ℕ} {ps : List Float} {fs v : List ℕ} (x : Refusal)
        → Applied (path_of cx (with_part p (cond many (i + 1) 0)) (drawn_by l path) (outline_by l outline) b) t (output_by n ps fs v (Err x)) (state_by (Err x)).budget
        → Applied whole t₀ (output_by n ps fs v (Err x)) (state_by (Err x)).budget
    path-stops x one = stops d x later next_is one

-- ---- the items of a scene
module _ (entry : ℕ → ℕ) (cx : Ctx) (l : List ℕ) {whole : Trace} {t₀ t : Output} {b : Budget} {q i : ℕ}
    (d : Loop whole t₀ t (items_of entry cx i (items_at l q) b) b q i) where
  pub all_items : items_at l q ≡ items_by l None → Applied whole t₀ t b
  unfolding items_of
  all_items e = all_done d (rw e refl)

  module _ (it : Item) (e : items_at l q ≡ items_by l (Some it)) {k : ℕ} (same : k ≡ entry (kind_of it.kind)) where
    abbrev later_items : Budget → Trace
    later_items r = items_of entry cx (i + 1) (items_at l it.next) r

    next_item_is : items_of entry cx i (items_at l q) b ≡ and_then_trace (item_of k cx i (item_by l it) b) later_items
    unfolding items_of item_by
    next_item_is = rw (e, add-one, same) refl

    pub one-item : q < it.next → {u : Output} {c : Budget} → Applied (item_of k cx i (item_by l it) b) t u c
        → Loop whole t₀ u (later_items c) c it.next (i + 1)
    one-item more one = one-done d later_items next_item_is one more

    pub item-stops : {n : ℕ} {ps : List Float} {fs v : List ℕ} (x : Refusal)
        → Applied (item_of k cx i (item_by l it) b) t (output_by n ps fs v (Err x)) (state_by (Err x)).budget
        → Applied whole t₀ (output_by n ps fs v (Err x)) (state_by (Err x)).budget
    item-stops x one = stops d x later_items next_item_is one

-- ---- all items, then the warning that the allowance was spent
module _ (b : Budget) where
  unspent : not b.hit ≡ true → spent_of b ≡ no_events b
  unfolding spent_of
  unspent n = rw (not-true b.hit n) refl

  spent_warns : not b.hit ≡ false → spent_of b ≡ one_event (warned (record { kind = 6; index = 0 })) b
  unfolding spent_of
  spent_warns n = rw (not-false b.hit n) refl

module _ (entry : ℕ → ℕ) (cx : Ctx) (its : List DrawnItem) (b : Budget) {t u : Output} {c : Budget} (all : Applied (items_of entry cx 0 its b) t u c) where
  pub all_within : not c.hit ≡ true → Applied (convert_of entry cx its b) t u c
  unfolding convert_of
  all_within n = applied_then spent_of all (rw (unspent c n) (applied_no_events u c all.fits))

  pub all-spent : {v : Output} {d : Budget} → not c.hit ≡ false → Applied (one_event (warned (record { kind = 6; index = 0 })) c) u v d → Applied (convert_of entry cx its b) t v d
  unfolding convert_of
  all-spent n h = applied_then spent_of all (rw (spent_warns c n) h)
