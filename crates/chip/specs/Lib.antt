-- How the chip's code goes about an event. Nothing that is promised speaks of it: `chip::step` cites the rules alone.
pub mod Task
