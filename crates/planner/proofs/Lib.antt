-- From the refusals to the run and from the run to the hand-over, without and with a limit; and the promise to a user.
pub mod Planning
pub mod Limiting
pub mod Promised
