use Rattle.stream.specs.Payload.{payload}
use Rattle.register.specs.Register.{px_mode, anchor_of, half_anchor}
use Rattle.register.proofs.DeclaredValues.{scene_says}
use Rattle.register.proofs.declared.read_declared.Goals as goal

pub returns : goal.returns
unfolding px_mode anchor_of half_anchor
returns c =
    let says = scene_says (payload c.args.s.now) c.requires in
    record {
      mercator = rw (← says.frame) c.is_mercator.ensures;
      px = rw (← says.px) c.is_set.ensures;
      scale = rw (← says.scale, ← c.scale.ensures) c.or.ensures;
      bearing = rw (← says.bearing, ← c.bearing.ensures) c.or-2.ensures;
      anchor = rw (← says.lon, ← says.lat, ← c.anchor-anchor.ensures) c.anchor_of.ensures;
      half = rw (← says.lon, ← says.lat, ← c.anchor-anchor.ensures) c.is_half.ensures;
      view = c.view_scale.ensures;
      rescale = c.rescale.ensures;
    }
