-- The text of an answer, as definitions over what a call returns: the lines of 01's `eqsplit`, and the page that they are written on.
pub mod Page
pub mod Text
pub mod Records
pub mod Writer
