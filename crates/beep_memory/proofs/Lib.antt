mod EventLemmas
mod GiftLemmas
mod KeptLemmas
mod MeetLemmas
mod NeedLemmas
mod PlaceLemmas
