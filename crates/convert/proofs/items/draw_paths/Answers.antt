use Rattle.std.specs.Prelude.{◌≡◌, ℕ, Result, Ok, Err, is_some, is_ok}
use Rattle.std.specs.Result.{result_ok}
use mathlib.Core.Path.{refl, sym, ◌∙◌}
use Rattle.scene.specs.declared.readers.Path.{Path}
use Rattle.convert.specs.Laws.Items.{many_by, paths_missing, paths_drawn}
use Rattle.convert.proofs.items.draw_paths.Goals as goal

some_is_ok : (r : Result Path ℕ) → is_some (result_ok r) ≡ is_ok r
some_is_ok (Ok p) = refl
some_is_ok (Err end) = refl

pub returns-in_default : goal.returns-in_default
returns-in_default c = paths_missing _ _ _ _ c.in_default.ensures.role_value (c.warn.ensures _ _ _ c.requires.1)

pub returns : goal.returns
returns c =
    let many = many_by _ _ _ c.next_path-2.ensures.role_value ∙ some_is_ok c.next_path-2.result ∙ sym c.is_ok-many.ensures.value in
    paths_drawn _ _ _ _ c.in-Ok.ensures.role_value many c.draw_each.ensures
