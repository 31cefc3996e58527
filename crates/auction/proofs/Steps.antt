-- What the parts of a step do, taken out of the definitions: each change of the state, what an arc offers, the best bid, which iteration
-- it is, and what that leaves as it is
pub mod Effects
pub mod Offers
pub mod Bids
pub mod Kinds
pub mod Keeps
