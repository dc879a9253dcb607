-- Whether a request for memory was refused in a call of C.
use Rattle.std.specs.Prelude.{◌+◌, ◌<◌}
use Rattle.relkvanu.specs.declared.requests.Requests.{Requests}

-- one of the requests so far was refused
abbrev pub IsRefused : Requests → Type 0
IsRefused r = 0 < r.meter.count + r.others.value
