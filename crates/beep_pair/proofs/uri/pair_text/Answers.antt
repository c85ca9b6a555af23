use Rattle.std.proofs.Common.{ap, ◌∙◌}
use Rattle.beep_two_sessions.specs.beep_answering.specs.Sent.{is_uri}
use Rattle.beep_pair.proofs.UriLemmas.{is_pair_uri, uri_fits}
use Rattle.beep_pair.proofs.uri.pair_text.Goals as goal

pub returns-clause-uri : goal.returns-clause-uri
returns-clause-uri c = is_pair_uri c.in_ok-text.text c.in_ok-text.ensures

pub returns-clause-valid : goal.returns-clause-valid
returns-clause-valid c = ap is_uri (is_pair_uri c.in_ok-text.text c.in_ok-text.ensures) ∙ uri_fits
