-- What a request in code stands for.
use Rattle.std.specs.Prelude.{List, map, option_map}
use Rattle.beep_standing.specs.beep_mgmt.specs.Form.{form_of}
use Rattle.beep_asked.specs.declared.request.Request.{Request}
use Rattle.beep_asked.specs.Kept.{Kept}

-- a request of the code as a value
abbrev pub kept_of : Request → Kept
kept_of request = record {
  said = option_map form_of request.said;
  implied = request.implied;
  names = request.names;
}

abbrev pub all_kept : List Request → List Kept
all_kept requests = map kept_of requests
