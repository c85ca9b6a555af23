use Rattle.beep_history.proofs.MomentsLemmas.{whole-moment}
use Rattle.beep_history.proofs.laws.a_request_is_whole_where_its_last_frame_passed.Goals as goal

pub returns : goal.returns
returns c = whole-moment
