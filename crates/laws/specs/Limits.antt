-- The limits, each named once.
use Rattle.std.specs.Prelude.{ℕ, false, true, pos, Float}
use Rattle.std.specs.Float.{fin}

-- nodes of a model
abbrev pub node_limit : ℕ
node_limit = 65535

-- cells of a model
abbrev pub cell_limit : ℕ
cell_limit = 16384

-- words of a model
abbrev pub word_limit : ℕ
word_limit = 262144

-- nodes in a ring, and in the list of an area test
abbrev pub ring_limit : ℕ
ring_limit = 64

-- records of a file
abbrev pub record_limit : ℕ
record_limit = 131072

-- the largest value of the check flags
abbrev pub flag_limit : ℕ
flag_limit = 3

-- a coordinate lies from -1,000,000 to 1,000,000 (15,625 * 2 ^ 6)
abbrev pub coordinate_most : Float
coordinate_most = fin false 15625 (pos 6)

abbrev pub coordinate_least : Float
coordinate_least = fin true 15625 (pos 6)

-- the program: bytes of standard input, finding records and words of work that it lends
abbrev pub input_limit : ℕ
input_limit = 32768

abbrev pub program_records : ℕ
program_records = 512

abbrev pub program_work : ℕ
program_work = 16384
