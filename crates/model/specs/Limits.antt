-- The limits and widths of document 01, each said once. Assumes nothing.
use Rattle.std.specs.Prelude.{ℕ}

-- a rule set ("Book bytes"): the versions of its bytes, and the predicates of version 1 and of version 2 (document 02, C-15)
abbrev pub last_version : ℕ
last_version = 2

abbrev pub narrow_limit : ℕ
narrow_limit = 64

abbrev pub predicate_limit : ℕ
predicate_limit = 1024

abbrev pub rule_limit : ℕ
rule_limit = 64

-- the bytes of the longest rule set; the program hands over one more
abbrev pub bytes_limit : ℕ
bytes_limit = 9096

abbrev pub input_limit : ℕ
input_limit = 9097

-- the records of the tables ("Lent lists"): a fact is a predicate and four terms; a term is a Skolem function, its arity and eight arguments
abbrev pub fact_width : ℕ
fact_width = 5

abbrev pub term_width : ℕ
term_width = 10

-- what stands for a Skolem function in the record of the first rule constant (document 02, C-16); no function has so high a number
abbrev pub fixed_mark : ℕ
fixed_mark = 60001

-- the places of a trigger of a blockable rule, and the facts of its closed test set ("Size of a match")
abbrev pub place_limit : ℕ
place_limit = 64

abbrev pub test_limit : ℕ
test_limit = 1024

-- the facts and terms of a stage
abbrev pub fact_limit : ℕ
fact_limit = 2048

abbrev pub term_limit : ℕ
term_limit = 512

-- one fact more decides a refusal, and what would come after it decides nothing
abbrev pub test_room : ℕ
test_room = 1025

abbrev pub fact_room : ℕ
fact_room = 2049

-- the front parts of the caller's tables: the terms of a stage and a cyclic one, and the facts of a stage
abbrev pub terms_front : ℕ
terms_front = 5130

abbrev pub facts_front : ℕ
facts_front = 10240

-- the depths at which a rule set is checked (document 02, C-14): 1 up to 3, and the program's
abbrev pub depth_limit : ℕ
depth_limit = 3

abbrev pub program_depth : ℕ
program_depth = 1
