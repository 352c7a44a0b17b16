-- The objects in memory, and the whole answer of each of their calls.
use Rattle.std.specs.Prelude.{ℕ, ◌+◌, ◌-◌, ◌==◌, nat_le, nat_lt, min, Bool, List, [], ◌++◌, length, take, drop, if◌then◌else◌}
use Rattle.std.specs.List.{list_any}
use Rattle.form_ports.specs.Ports.{counted}
use Rattle.form_ports.specs.declared.ports.Got.{Got}
use Rattle.form_ports.specs.declared.ports.Got.TheVariants as got
use Rattle.form_ports.specs.declared.ports.Took.{Took}
use Rattle.form_ports.specs.declared.ports.Took.TheVariants as took
use Rattle.form_ports.specs.declared.ports.Rewound.{Rewound}
use Rattle.form_ports.specs.declared.ports.Rewound.TheVariants as rewound

-- a source in memory: the bytes that are left, how many it gave, the most bytes of one call, the numbers of the calls
-- that fail, how many calls were made, and how many of them failed
pub record SourceState : Type 0 where
  pub left : List ℕ
  pub given : ℕ
  pub piece : ℕ
  pub failing : List ℕ
  pub calls : ℕ
  pub faults : ℕ

-- a source that was not called yet
abbrev pub new_source : List ℕ → ℕ → List ℕ → SourceState
new_source bytes piece failing = record {
  left = bytes;
  given = 0;
  piece = piece;
  failing = failing;
  calls = 0;
  faults = 0;
}

-- the next call is one of those that fail
abbrev pub is_failing : List ℕ → ℕ → Bool
is_failing failing calls = list_any (λ n. n == counted calls) failing

-- how many bytes one call moves: all that there are, but no more than fit and than a piece has
abbrev pub moved : ℕ → ℕ → ℕ → ℕ
moved there piece room = min (min there piece) room

-- what a read answers, and the source after it
abbrev pub source_read : SourceState → ℕ → Got × SourceState
source_read s room =
    if is_failing s.failing s.calls then (got.Failed, record s { calls = counted s.calls; faults = counted s.faults })
    else (if length s.left == 0 then (got.End, record s { calls = counted s.calls })
    else (
      got.Bytes (moved (length s.left) s.piece room),
      record s {
        left = drop (moved (length s.left) s.piece room) s.left;
        given = s.given + moved (length s.left) s.piece room;
        calls = counted s.calls;
      },
    ))

-- a sink in memory: the bytes that it took, the most that it has room for, the most bytes of one call, the numbers of
-- the calls that fail, how many calls were made, and how many of them failed
pub record SinkState : Type 0 where
  pub bytes : List ℕ
  pub room : ℕ
  pub piece : ℕ
  pub failing : List ℕ
  pub calls : ℕ
  pub faults : ℕ

-- a sink that was not called yet
abbrev pub new_sink : ℕ → ℕ → List ℕ → SinkState
new_sink room piece failing = record {
  bytes = [];
  room = room;
  piece = piece;
  failing = failing;
  calls = 0;
  faults = 0;
}

-- a call of the sink that fails
abbrev pub sink_failed : SinkState → Took × SinkState
sink_failed s = (took.Failed, record s { calls = counted s.calls; faults = counted s.faults })

-- what a write answers, and the sink after it: it fails too where the sink has taken all that it has room for
abbrev pub sink_write : SinkState → List ℕ → Took × SinkState
sink_write s piece =
    if is_failing s.failing s.calls then sink_failed s
    else (if nat_le s.room (length s.bytes) then sink_failed s
    else (
      took.Bytes (moved (s.room - length s.bytes) s.piece (length piece)),
      record s {
        bytes = s.bytes ++ take (moved (s.room - length s.bytes) s.piece (length piece)) piece;
        calls = counted s.calls;
      },
    ))

-- a file in memory: its bytes, how many it gave since the last rewind, the most bytes of one call, the numbers of the
-- calls that fail, how many calls were made, reads and rewinds together, and how many of them failed
pub record BlobState : Type 0 where
  pub content : List ℕ
  pub position : ℕ
  pub piece : ℕ
  pub failing : List ℕ
  pub calls : ℕ
  pub faults : ℕ

-- a file that was not called yet
abbrev pub new_blob : List ℕ → ℕ → List ℕ → BlobState
new_blob content piece failing = record {
  content = content;
  position = 0;
  piece = piece;
  failing = failing;
  calls = 0;
  faults = 0;
}

-- what a read answers, and the file after it
abbrev pub blob_read : BlobState → ℕ → Got × BlobState
blob_read b room =
    if is_failing b.failing b.calls then (got.Failed, record b { calls = counted b.calls; faults = counted b.faults })
    else (if length b.content - b.position == 0 then (got.End, record b { calls = counted b.calls })
    else (
      got.Bytes (moved (length b.content - b.position) b.piece room),
      record b {
        position = b.position + moved (length b.content - b.position) b.piece room;
        calls = counted b.calls;
      },
    ))

-- what a rewind answers, and the file after it
abbrev pub blob_rewind : BlobState → Rewound × BlobState
blob_rewind b =
    if is_failing b.failing b.calls then (rewound.Failed, record b { calls = counted b.calls; faults = counted b.faults })
    else (rewound.Done, record b { position = 0; calls = counted b.calls })

-- a file in memory that changes: its bytes up to the second rewind and those from then on, how many it gave since the
-- last rewind, and how often it was rewound
pub record ShiftState : Type 0 where
  pub first : List ℕ
  pub later : List ℕ
  pub position : ℕ
  pub rewinds : ℕ

-- a file that was not called yet
abbrev pub new_shift : List ℕ → List ℕ → ShiftState
new_shift first later = record { first = first; later = later; position = 0; rewinds = 0 }

-- the bytes that it has now
abbrev pub shifted : ShiftState → List ℕ
shifted s = if nat_lt s.rewinds 2 then s.first else s.later

-- what it can still give
abbrev pub shift_left : ShiftState → List ℕ
shift_left s = drop s.position (shifted s)

-- what a read answers, and the file after it: all that there is, but no more than fit
abbrev pub shift_read : ShiftState → ℕ → Got × ShiftState
shift_read s room =
    if length (shift_left s) == 0 then (got.End, s)
    else (
      got.Bytes (min (length (shift_left s)) room),
      record s { position = s.position + min (length (shift_left s)) room },
    )

-- the file after a rewind
abbrev pub shift_rewind : ShiftState → ShiftState
shift_rewind s = record s { position = 0; rewinds = counted s.rewinds }
