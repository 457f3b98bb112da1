-- Conditions 15 to 18, and what the lent slices hold: a second look at the events. The first thing that lacks room decides.
use Rattle.std.specs.Prelude.{ℕ, ◌+◌, ◌*◌, Bool, true, false, List, [], ◌∷◌, length, eqb, leb, Float}
use Rattle.stream.specs.Conditions.{Condition}
use Rattle.values.specs.declared.Point.{Point}
use Rattle.values.specs.Warnings.{Warning}
use Rattle.values.specs.Slices.{put}
use Rattle.values.specs.Points.{flats}
use Rattle.geojson.specs.Features.{Feature, words_of}
use Rattle.strokes.specs.Strokes.{Event, drew, need, feature, warned}

-- How many floats work has; the slices, and how much of each is used, in floats and words. `number` is 0 while everything has had room.
pub record Output : Type 0 where
  pub work : ℕ
  pub positions : List Float
  pub features : List ℕ
  pub warnings : List ℕ
  pub used_positions : ℕ
  pub used_features : ℕ
  pub used_warnings : ℕ
  pub number : ℕ

abbrev pub pick_output : Bool → Output → Output → Output
pick_output true a b = a
pick_output false a b = b

abbrev pub out_of_room : ℕ → Output → Output
out_of_room n t =
    record {
      work = t.work;
      positions = t.positions;
      features = t.features;
      warnings = t.warnings;
      used_positions = t.used_positions;
      used_features = t.used_features;
      used_warnings = t.used_warnings;
      number = n;
    }

-- a feature's positions, then its line
abbrev pub with_feature : Feature → List Point → Output → Output
with_feature f ps t =
    record {
      work = t.work;
      positions = put t.positions t.used_positions (flats ps);
      features = put t.features t.used_features (words_of f);
      warnings = t.warnings;
      used_positions = t.used_positions + length (flats ps);
      used_features = t.used_features + 6;
      used_warnings = t.used_warnings;
      number = t.number;
    }

abbrev pub with_warning : Warning → Output → Output
with_warning w t =
    record {
      work = t.work;
      positions = t.positions;
      features = t.features;
      warnings = put t.warnings t.used_warnings (w.kind ∷ w.index ∷ []);
      used_positions = t.used_positions;
      used_features = t.used_features;
      used_warnings = t.used_warnings + 2;
      number = t.number;
    }

unfoldable pub apply : Event → Output → Output
apply (drew d) t = t
apply (need n) t = pick_output (leb (2 * n) t.work) t (out_of_room 15 t)
apply (feature f ps) t =
    pick_output (leb (t.used_positions + length (flats ps)) (length t.positions))
    (pick_output (leb (t.used_features + 6) (length t.features)) (with_feature f ps t) (out_of_room 17 t))
    (out_of_room 16 t)
apply (warned w) t = pick_output (leb (t.used_warnings + 2) (length t.warnings)) (with_warning w t) (out_of_room 18 t)

-- one after the other, up to the first that lacks room
unfoldable pub apply_all : List Event → Output → Output
apply_all [] t = t
apply_all (e ∷ es) t = apply_all es (pick_output (eqb t.number 0) (apply e t) t)

-- ---- conditions 15 to 18, by the number of the sheet that everything was written onto
unfoldable pub of_space : Output → List Condition
of_space t = (15, eqb t.number 15) ∷ (16, eqb t.number 16) ∷ (17, eqb t.number 17) ∷ (18, eqb t.number 18) ∷ []
