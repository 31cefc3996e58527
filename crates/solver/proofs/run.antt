-- The wanted node that is looked for, how nodes forget and what they remember, the loop of iterations, and how it begins.
pub mod Wanted
pub mod Forgetting
pub mod Holding
pub mod Recalling
pub mod Ready
pub mod Storing
pub mod Iterating
pub mod Beginning
