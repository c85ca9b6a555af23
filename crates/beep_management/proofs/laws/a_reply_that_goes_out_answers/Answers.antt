use Rattle.beep_management.proofs.SentLemmas.{rpy-replies, reply-some, grant-has-one, answer-refuses, refused-still, answer-grants, first-fresh, grant-still}
use Rattle.beep_management.proofs.laws.a_reply_that_goes_out_answers.Goals as goal

pub returns : goal.returns
returns c = record {
  waits = λ size lives journal given taken channels m head payload managed s zero last reply.
      reply-some size lives journal given taken channels head payload s zero last m managed.spoken managed.prepared managed.is reply;
  channel = λ size lives journal given taken channels m head payload later one managed s zero last allows split.
      grant-has-one size lives journal given taken channels head payload s zero last m managed.spoken managed.prepared managed.is (rpy-replies head.kind allows) later one split allows;
  refused = λ size lives journal given taken channels m head payload later one theirs managed s zero last reply refuses split rest. (
    record {
      spoken = managed.spoken;
      prepared = managed.prepared;
      is = answer-refuses size lives journal given taken channels head payload s zero last m managed.spoken managed.prepared managed.is reply later one split refuses theirs rest;
    },
    refused-still size lives journal given taken channels head payload s zero last m managed.spoken managed.prepared managed.is reply later one split refuses,
  );
  granted = λ size lives journal given taken channels m head payload live later one first granted mine acts theirs managed s zero last allows says split are count mine-are room acts-are theirs-are. (
    record {
      spoken = managed.spoken;
      prepared = managed.prepared;
      is = answer-grants size lives journal given taken channels head payload s zero last m managed.spoken managed.prepared managed.is (rpy-replies head.kind allows) later one split allows
          first granted are count mine acts theirs mine-are room acts-are theirs-are;
    },
    first-fresh size lives journal given taken channels head payload s zero last m managed.spoken managed.prepared managed.is (rpy-replies head.kind allows) later one split allows first granted are count,
    grant-still size lives journal given taken channels head payload s zero last m managed.spoken managed.prepared managed.is (rpy-replies head.kind allows) later one split allows live says,
  );
}
