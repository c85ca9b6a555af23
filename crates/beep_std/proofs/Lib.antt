mod PlaceLemmas
mod MeetLemmas
