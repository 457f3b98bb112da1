use Rattle.std.proofs.Common.{refl}
use Rattle.fit.specs.Laws.Projected.{fit_none, fit_once, fit_twice}
use Rattle.fit.proofs.fit_projected.Goals as goal

pub returns-in_err-m : goal.returns-in_err-m
returns-in_err-m c = fit_none _ c.in_err-m.ensures.value c.from_residual.ensures

pub returns-in_err-f : goal.returns-in_err-f
returns-in_err-f c = fit_once _ c.in_ok-m.ensures.value c.in_err-f.ensures refl c.from_residual-in_err-f.ensures

pub returns : goal.returns
returns c = fit_twice _ c.in_ok-m.ensures.value c.in_ok-f.ensures refl c.mercator_forward.ensures c.fit_about-2.ensures
