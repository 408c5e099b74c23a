-- What was built is served.
use Rattle.std.specs.Prelude.{◌≡◌, ◌≤◌, length, None}
use Rattle.disk_trait.specs.Image.{Image}
use Rattle.map_file_model.specs.Laws.{IsBody}
use Rattle.map_file_model.specs.Reading.{body_fault}
use Rattle.map_model.specs.SortedMap.{Map}
use Rattle.map_run_model.specs.Files.{HasMap, IsThere, built_body, built_cutoff, bytes_read, max_body_bytes}
use Rattle.map_run_model.specs.Serving.{map_on}

-- what is read of this device are the bytes of these pairs
pub record IsServedAs (pairs : Map) (image : Image) : Type 0 where
  pub there : IsThere image
  pub bytes : bytes_read image ≡ built_body pairs
  pub right : body_fault (bytes_read image) ≡ None
  pub map_is : map_on image ≡ pairs

-- a device that a build left with 0 is served, by the same map
abbrev pub BuiltMapsAreServed : Type 0
BuiltMapsAreServed =
    (pairs : Map) (image : Image) → IsBody (built_cutoff pairs) pairs (built_body pairs) → length (built_body pairs) ≤ max_body_bytes → HasMap pairs image → IsServedAs pairs image
