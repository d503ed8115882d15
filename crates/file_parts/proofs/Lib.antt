pub mod Taken
pub mod TreeFirst
pub mod WalkBack
pub mod OpeningPlaces
pub mod MemberNumbers
pub mod Upgrading
