-- A point goes through what is worked out once as it does through the registration. Assumes nothing.
use Rattle.std.specs.Prelude.{◌≡◌, refl, Float}
use Rattle.projection.specs.declared.Registration.{Registration}
use Rattle.projection.specs.Projection.{plane_offset_of, to_lon_lat_of, projection_of, to_lon_lat_by, geo_of, geo_by}

pub projects : (r : Registration) (x y : Float) → to_lon_lat_by (projection_of r) x y ≡ to_lon_lat_of r x y
unfolding to_lon_lat_by projection_of to_lon_lat_of plane_offset_of
projects r x y = refl

pub geo_projects : (r : Registration) (x y : Float) → geo_by (projection_of r) x y ≡ geo_of r x y
unfolding geo_by geo_of
geo_projects r x y = rw projects
