-- "Checked by hand": P1 to P10, and two cases more, by one theorem over one list. Beside an example stands the slip that it shuts out.
use Rattle.std.specs.Prelude.{◌≡◌, refl, Bool, true, false, List, [], ◌∷◌, ◌++◌, map, ℕ, zero, suc, drop, Result, Ok, Err}
use Rattle.rules.specs.Limits.{narrow}
use Rattle.rules.specs.Strings.{Str, prefix, same, less, field, value_from, aligned, word_of, str_of}
use Rattle.rules.specs.Names.{Name, any, all, keep, member, rising, is_name, covered, below, uncovered, lacked, insert, sorted, outgrown, union}
use Rattle.rules.specs.Stamps.{Stamp, start, pair_among, pair, lawful, update, append, fork, settle, settled, reduce_by, reduce, unite, join, compare}
use Rattle.rules.specs.Stored.{words_of, stored, strs_in, held, same_numbers, same_words, same_record, is_stored, unlawful, blank, absent}
use Rattle.rules.specs.Refusals.{first, long, many, touches, overlap, unknown_to, unseen}
use Rattle.rules.specs.Values.{Compared, updated, forked, joined, compared, standing}
use Rattle.rules.specs.Packed.{string_bits, strings_bits, name_bits, stamp_bits, bytes_of, pack_bits, packed}
use Rattle.rules.specs.Tables.{bad_size, no_slot, lowest, full, fresh_table, update_at, fork_at, join_at, compare_at, spare_from, spare_at}
use Rattle.rules.specs.Traces.{split_at, drop_empty_last, lines_of, slot_of, read_line, ok_text, refused_text, digits_text, conflict_text, verdict_text, line_text}
use Rattle.rules.specs.Traces.{line_table, traced_from, read_lines, traced}
use Rattle.rules.specs.declared.Verdict.{Verdict}
use Rattle.rules.specs.declared.Refusal.TheVariants.{Unlawful, Overlap, Unseen}
use Rattle.rules.specs.declared.Record.{Record}
use Rattle.rules.specs.declared.Refusal.{Refusal}
use Rattle.rules.specs.declared.Uncovered.{Uncovered}
use Rattle.rules.specs.declared.Standing.{Standing}
use Rattle.rules.specs.declared.Branches.{Branches}

abbrev o : Bool
o = false

abbrev i : Bool
i = true

abbrev e : Str
e = []

-- [u|i], and as a record
abbrev stamp : Name → Name → Stamp
stamp u n = record { update = u; id = n }

abbrev r : Name → Name → Record
r u n = stored narrow (stamp u n)

-- the strings of the examples
abbrev s0 : Str
s0 = o ∷ []

abbrev s1 : Str
s1 = i ∷ []

abbrev s00 : Str
s00 = o ∷ o ∷ []

abbrev s01 : Str
s01 = o ∷ i ∷ []

abbrev s10 : Str
s10 = i ∷ o ∷ []

abbrev s11 : Str
s11 = i ∷ i ∷ []

abbrev s100 : Str
s100 = i ∷ o ∷ o ∷ []

abbrev s101 : Str
s101 = i ∷ o ∷ i ∷ []

abbrev s000 : Str
s000 = o ∷ o ∷ o ∷ []

abbrev s011 : Str
s011 = o ∷ i ∷ i ∷ []

-- all strings of k digits, in rising order
every : ℕ → Name
every zero = [] ∷ []
every (suc k) = map (λ s. o ∷ s) (every k) ++ map (λ s. i ∷ s) (every k)

-- sixteen strings, no two of which differ in the last digit only
abbrev sixteen : Name
sixteen = append false (every 4)

-- the trace tool's example: F 0, F 0, U 1, U 2, J 1 0, C 1 2, S 2, J 1 1, J 1 2, C 1 1, U 0, one a line
typed : List ℕ
typed = 70 ∷ 32 ∷ 48 ∷ 10 ∷ 70 ∷ 32 ∷ 48 ∷ 10 ∷ 85 ∷ 32 ∷ 49 ∷ 10 ∷ 85 ∷ 32 ∷ 50 ∷ 10 ∷ 74 ∷ 32 ∷ 49 ∷ 32 ∷ 48 ∷ 10 ∷ 67 ∷ 32 ∷ 49 ∷ 32 ∷ 50 ∷ 10 ∷ 83 ∷ 32 ∷ 50 ∷ 10 ∷ 74 ∷ 32 ∷ 49 ∷ 32 ∷ 49 ∷ 10 ∷ 74 ∷ 32 ∷ 49 ∷ 32 ∷ 50 ∷ 10 ∷ 67 ∷ 32 ∷ 49 ∷ 32 ∷ 49 ∷ 10 ∷ 85 ∷ 32 ∷ 48 ∷ 10 ∷ []

-- ok 1, ok 2, ok 1, ok 2, ok 1, conflict 1 01, kept, refused 4, ok 1, equal, refused 3, one a line
printed : List ℕ
printed = 111 ∷ 107 ∷ 32 ∷ 49 ∷ 10 ∷ 111 ∷ 107 ∷ 32 ∷ 50 ∷ 10 ∷ 111 ∷ 107 ∷ 32 ∷ 49 ∷ 10 ∷ 111 ∷ 107 ∷ 32 ∷ 50 ∷ 10 ∷ 111 ∷ 107 ∷ 32 ∷ 49 ∷ 10 ∷ 99 ∷ 111 ∷ 110 ∷ 102 ∷ 108 ∷ 105 ∷ 99 ∷ 116 ∷ 32 ∷ 49 ∷ 32 ∷ 48 ∷ 49 ∷ 10 ∷ 107 ∷ 101 ∷ 112 ∷ 116 ∷ 10 ∷ 114 ∷ 101 ∷ 102 ∷ 117 ∷ 115 ∷ 101 ∷ 100 ∷ 32 ∷ 52 ∷ 10 ∷ 111 ∷ 107 ∷ 32 ∷ 49 ∷ 10 ∷ 101 ∷ 113 ∷ 117 ∷ 97 ∷ 108 ∷ 10 ∷ 114 ∷ 101 ∷ 102 ∷ 117 ∷ 115 ∷ 101 ∷ 100 ∷ 32 ∷ 51 ∷ 10 ∷ []

-- what an example says: one of these is the other
pub data Said : Type 0 where
  truth : Bool → Said
  name : Name → Said
  bytes : List ℕ → Said
  gives : Result Record Refusal → Said
  branches : Result Branches Refusal → Said
  compares : Compared → Said
  stands : Result Standing Refusal → Said

-- the string s, at place k
abbrev at : ℕ → Str → Uncovered
at k s = record { place = k; word = word_of s }

abbrev done : Name → Name → Result Record Refusal
done u n = Ok (r u n)

pub examples : List (Said × Said)
examples =
    -- P1
    (truth (below (s00 ∷ s011 ∷ []) (s000 ∷ s011 ∷ s1 ∷ [])), truth true)
    ∷ (truth (below (s00 ∷ s10 ∷ []) (s000 ∷ s011 ∷ s1 ∷ [])), truth false)
    -- P2: not "keeping 0 beside 01 in a union"
    ∷ (name (union (s00 ∷ s011 ∷ []) (s000 ∷ s01 ∷ s1 ∷ [])), name (s000 ∷ s011 ∷ s1 ∷ []))
    -- P3
    ∷ (bytes (packed narrow start), bytes (0x00 ∷ 0x00 ∷ 0x00 ∷ []))
    ∷ (bytes (packed narrow (fork false start)), bytes (0x00 ∷ 0x00 ∷ 0x40 ∷ []))
    ∷ (bytes (packed narrow (fork true start)), bytes (0x00 ∷ 0x00 ∷ 0x60 ∷ []))
    ∷ (branches (forked narrow (stored narrow start)), branches (Ok (record { zero = r (e ∷ []) (s0 ∷ []); one = r (e ∷ []) (s1 ∷ []) })))
    -- P4
    ∷ (gives (updated narrow (r (e ∷ []) (s0 ∷ []))), gives (done (s0 ∷ []) (s0 ∷ [])))
    ∷ (bytes (packed narrow (stamp (s0 ∷ []) (s0 ∷ []))), bytes (0x00 ∷ 0x80 ∷ 0x20 ∷ []))
    -- P5
    ∷ (bytes (packed narrow (stamp (e ∷ []) (s00 ∷ s1 ∷ []))), bytes (0x00 ∷ 0x08 ∷ 0x80 ∷ 0xC0 ∷ []))
    -- P6: not "reducing once"; not "putting s into u only if u held both s0 and s1"
    ∷ (gives (joined narrow (r (s1 ∷ []) (s00 ∷ s1 ∷ [])) (r (s01 ∷ []) (s01 ∷ []))), gives (done (e ∷ []) (e ∷ [])))
    -- P7: not "reducing u by itself"
    ∷ (gives (joined narrow (r (s0 ∷ []) (s00 ∷ [])) (r (s1 ∷ []) (s1 ∷ []))), gives (done (s0 ∷ s1 ∷ []) (s00 ∷ s1 ∷ [])))
    -- P8: not "comparing ids in place of updates"
    ∷ (compares (compared narrow (r (s0 ∷ []) (s01 ∷ [])) (r (s0 ∷ s1 ∷ []) (s00 ∷ s1 ∷ []))), compares (Ok Verdict.Obsolete))
    -- P9
    ∷ (compares (compared narrow (r (s0 ∷ []) (s0 ∷ [])) (r (s1 ∷ []) (s1 ∷ []))), compares (Ok Verdict.Conflict))
    ∷ (compares (compared narrow (r (e ∷ []) (s0 ∷ [])) (r (e ∷ []) (s1 ∷ []))), compares (Ok Verdict.Equal))
    -- the uncovered string: not "the first string of all", not "the first's where the second has it"; and both
    ∷ (stands (standing narrow (r (s0 ∷ []) (s01 ∷ [])) (r (s0 ∷ s1 ∷ []) (s00 ∷ s1 ∷ []))), stands (Ok (Standing.Obsolete (at 1 s1))))
    ∷ (stands (standing narrow (r (s0 ∷ s1 ∷ []) (s00 ∷ s1 ∷ [])) (r (s0 ∷ []) (s01 ∷ []))), stands (Ok (Standing.Newer (at 1 s1))))
    ∷ (stands (standing narrow (r (s0 ∷ s10 ∷ []) (s00 ∷ s10 ∷ [])) (r (s0 ∷ s11 ∷ []) (s01 ∷ s11 ∷ []))), stands (Ok (Standing.Conflict (at 1 s10) (at 1 s11))))
    ∷ (stands (standing narrow (r (e ∷ []) (s0 ∷ [])) (r (e ∷ []) (s1 ∷ []))), stands (Ok Standing.Equal))
    -- 9 asks every uncovered string, not "the first alone": 0 is not below 101 or 11, 10 is
    ∷ (compares (compared narrow (r (s0 ∷ s10 ∷ []) (s0 ∷ s100 ∷ [])) (r (s11 ∷ []) (s101 ∷ s11 ∷ []))), compares (Err Unseen))
    -- P10
    ∷ (compares (compared narrow (r (e ∷ []) (s0 ∷ [])) (r (e ∷ []) (s0 ∷ []))), compares (Err Overlap))
    ∷ (compares (compared narrow (r (s0 ∷ []) (s00 ∷ [])) (r (e ∷ []) (s01 ∷ []))), compares (Err Unseen))
    ∷ (compares (compared narrow (r (s01 ∷ []) (s0 ∷ [])) (r (s1 ∷ []) (s1 ∷ []))), compares (Err Unlawful))
    -- not "refusing a join by the number of strings before reduction": 17 before, 16 after
    ∷ (gives (joined narrow (r (e ∷ []) sixteen) (r (e ∷ []) ((o ∷ o ∷ o ∷ o ∷ i ∷ []) ∷ []))), gives (done (e ∷ []) ((o ∷ o ∷ o ∷ o ∷ []) ∷ drop 1 sixteen)))
    -- the trace tool's example, byte for byte
    ∷ (bytes (traced narrow typed), bytes printed)
    ∷ []

abbrev pub Hold : List (Said × Said) → Type 0
Hold [] = Unit {0}
Hold (c ∷ cs) = (c.0 ≡ c.1) × Hold cs

-- each holds by computing both sides
pub examples_hold : Hold examples
unfolding examples typed printed every prefix same less field value_from aligned word_of str_of any all keep member rising is_name covered below uncovered lacked insert sorted outgrown union pair_among pair lawful update append fork settle settled reduce_by reduce unite join compare words_of stored strs_in held same_numbers same_words same_record is_stored unlawful blank first long many touches overlap unknown_to unseen updated forked joined compared standing string_bits strings_bits name_bits stamp_bits bytes_of pack_bits packed absent bad_size no_slot lowest full fresh_table update_at fork_at join_at compare_at spare_from spare_at split_at drop_empty_last lines_of slot_of read_line ok_text refused_text digits_text conflict_text verdict_text line_text line_table traced_from read_lines traced
examples_hold = (refl, (refl, (refl, (refl, (refl, (refl, (refl, (refl, (refl, (refl, (refl, (refl, (refl, (refl, (refl, (refl, (refl, (refl, (refl, (refl, (refl, (refl, (refl, (refl, (refl, tt)))))))))))))))))))))))))
