-- THERM's flag and THERM2's mark by the history: from the comparisons alone, never from what is stored. Assumes nothing.
use Rattle.std.specs.Prelude.{Bool, cond, false, [], ◌∷◌}
use Rattle.rules.specs.declared.register.Channel.{Channel}
use Rattle.rules.specs.Comparisons.{Comparator, limits_of, tripped_of}
use Rattle.rules.specs.History.{Entry, History}

-- "set when the value is above the limit, cleared when at or below (limit - hysteresis, not under 0), otherwise kept": by an event that
-- compares the channel, with what is seen after it; 02, item 4: "The marks are kept up whatever bit 5 says"
abbrev pub hot_after : Entry → Comparator → Channel → Bool → Bool
hot_after x k ch was =
    cond (x.facts.compared ch) (tripped_of k (limits_of x.seen.registers ch) (x.seen.value ch) was) was

-- before any event, "clear at power-on"
unfoldable pub hot : Comparator → Channel → History → Bool
hot k ch [] = false
hot k ch (x ∷ earlier) = hot_after x k ch (hot k ch earlier)
