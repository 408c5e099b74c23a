-- How a request that breaks a limit of keys, values or bounds is answered.
use Rattle.std.specs.Prelude.{nat_lt, if◌then◌else◌, length, Option, Some, None}
use Rattle.std.specs.Option.{option_or}
use Rattle.key_base.specs.Limits.{is_no_key_length, max_bound_bytes, max_value_bytes}
use Rattle.map_model.specs.SortedMap.{Bytes}
use Rattle.line_model.specs.Requests.{Request, Put, Del, Get, Seek, Range, Count, Estimate, Explain, Flush, Compact, Quit, Bad}
use Rattle.line_model.specs.Replies.{Reply, LongKey, LongValue}

-- a key has one byte or more, and no more than its limit
abbrev pub key_limit : Bytes → Option Reply
key_limit key = if is_no_key_length (length key) then Some (LongKey (length key)) else None

-- a value has no more bytes than its limit
abbrev pub value_limit : Bytes → Option Reply
value_limit value = if nat_lt max_value_bytes (length value) then Some (LongValue (length value)) else None

-- a bound may be empty
abbrev pub bound_limit : Bytes → Option Reply
bound_limit bound = if nat_lt max_bound_bytes (length bound) then Some (LongKey (length bound)) else None

-- the limit that a request breaks, the first where it breaks two
abbrev pub limit_of : Request → Option Reply
limit_of (Put key value) = option_or (key_limit key) (value_limit value)
limit_of (Del key) = key_limit key
limit_of (Get key) = key_limit key
limit_of (Seek lo None) = bound_limit lo
limit_of (Seek lo (Some hi)) = option_or (bound_limit lo) (bound_limit hi)
limit_of (Range lo hi n) = option_or (bound_limit lo) (bound_limit hi)
limit_of (Count lo hi) = option_or (bound_limit lo) (bound_limit hi)
limit_of (Estimate lo hi) = option_or (bound_limit lo) (bound_limit hi)
limit_of (Explain key) = key_limit key
limit_of Flush = None
limit_of Compact = None
limit_of Quit = None
limit_of (Bad code) = None
