-- Small plans with results, checked and sorted by the definitions themselves: what cells show, and which reads failed.
-- Every row is computed. A results file has its count at 1 and its first status byte at 3.
-- Assumes nothing.
use Prim.Native.Nat.{ℕ}
use mathlib.Core.Path.{◌≡◌, refl}
use mathlib.Core.List.{List, [], ◌∷◌, ◌++◌}
use Rattle.std.specs.Prelude.{None, Some}
use lib.ListN.{set}
use Rattle.fields.specs.Text.{bytes, between, printable, lower, lowered, same, alike}
use Rattle.fields.specs.Decimal.{is_digit, value_from, leading_digits}
use Rattle.fields.specs.Options.{and_then, or_else}
use Rattle.fields.specs.Format.{fine, bad, first, joined, onward, ◌then◌, leading, mapped, given, many_read, many_lay, many, held_read, held_lay, held, flag_of, among}
use Rattle.fields.specs.Fields.{spelled, digits, whole, limited, number_check, numeric, number, choice, text_bytes, text_check, text_of, text_rest, text_past, text_verdict, text, opens_index, digits_above, index_check, indexed_text, counted, optional}
use Rattle.fields.specs.Files.{opening_check, ending_check, fields_check, file_check, file_of, file_lay, counts_verdict}
use Rattle.fields.specs.Places.{value_at, place_at, places_from}
use Rattle.fields.specs.declared.Refusal.TheVariants.{OutOfFile, NotAllowed, CountsDiffer}
use Rattle.plans.specs.Plans.{named, indexed, Read, step_byte, named_text, indexed_number, first_number, after_byte, step, reads_of, plan_verdict}
use Rattle.plans.specs.Plans.{member as plan_member, read as plan_read, layout as plan_file}
use Rattle.repeats.specs.Repeats.{is_again}
use Rattle.values.specs.Value.{Value, leaf, array, struct, no_item, item, no_member, member}
use Rattle.values.specs.File.{runs_past, inside, enclosed, bytes_left, item_list, items_of, member_list, members_of, kind_byte, leaf_bytes, array_items, struct_members, string_bytes, items, members, after_kind, content, too_deep, value}
use Rattle.values.specs.Alike.{past_value, kind_at, count_place, items_alike, members_alike, kind_alike, alike_within}
use Rattle.values.specs.Dig.{count_at, first_place, item_places, name_places, find_name, member_place, item_place, step_place, dig_place}
use Rattle.results.specs.Results.{got, failed, neither, status_byte, nothing, got_value, if_failed, if_neither, after_status, result_field, results_of, fields_verdict, result_alike, results_alike, results_verdict, layout}
use Rattle.results.specs.Sorting.{reply_by, replies_from, replies_of, cut_or, cut_from, entry_of, has_no_path, is_plain, entries_from, all_retry, other_entries, read_entries, sorted_entries, is_retry, any_retry, is_error, is_added, failed_from, sorted_of, entry_byte, cut_place, if_retry, if_received, after_entry, entry, sorted, sorted_file, sort_verdict}

-- opens every definition that the check, the reading, the layout and the sorting need
computing : Unit {0}
unfolding between printable lower lowered same alike is_digit value_from leading_digits and_then or_else first joined onward ◌then◌ leading mapped given many_read many_lay many held_read held_lay held flag_of among spelled digits whole limited number_check numeric number choice text_bytes text_check text_of text_rest text_past text_verdict text opens_index digits_above index_check indexed_text counted optional opening_check ending_check fields_check file_check file_of file_lay value_at place_at places_from step_byte named_text indexed_number first_number after_byte step plan_member plan_read reads_of plan_verdict plan_file runs_past inside enclosed bytes_left item_list items_of member_list members_of kind_byte leaf_bytes array_items struct_members string_bytes items members after_kind content too_deep value is_again past_value kind_at count_place items_alike members_alike kind_alike alike_within count_at first_place item_places name_places find_name member_place item_place step_place dig_place status_byte nothing got_value if_failed if_neither after_status result_field results_of fields_verdict result_alike results_alike results_verdict layout reply_by replies_from replies_of cut_or cut_from entry_of has_no_path is_plain entries_from all_retry other_entries read_entries sorted_entries is_retry any_retry is_error is_added failed_from sorted_of entry_byte cut_place if_retry if_received after_entry entry sorted sorted_file counts_verdict sort_verdict
computing = tt

-- ---- reads
-- its only member has byte 0
abbrev plain : Read
plain = record { name = bytes "A"; members = record { tag = bytes "A"; path = None } ∷ [] }

-- two members, each with a path of one name
abbrev motor : Read
motor = record { name = bytes "Motor"; members = record { tag = bytes "Motor.Speed"; path = Some (named (bytes "Speed") ∷ []) } ∷ record { tag = bytes "Motor.Amps"; path = Some (named (bytes "Amps") ∷ []) } ∷ [] }

-- a member with byte 0, and one with a path
abbrev mixed : Read
mixed = record { name = bytes "T"; members = record { tag = bytes "T"; path = None } ∷ record { tag = bytes "T[1]"; path = Some (indexed 1 ∷ []) } ∷ [] }

-- ---- values
abbrev seven : Value
seven = leaf (7 ∷ [])

abbrev running : Value
running = struct (member (bytes "Speed") seven (member (bytes "Amps") seven no_member))

abbrev halted : Value
halted = struct (member (bytes "Speed") seven no_member)

-- ---- a results file: its status bytes stand at 3, 10 and 11
abbrev three : List ℕ
three = 1 ∷ 0 ∷ 3 ∷ 0 ∷ 0 ∷ 0 ∷ 0 ∷ 2 ∷ 0 ∷ 7 ∷ 1 ∷ 2 ∷ []

three-laid : layout (got seven ∷ failed ∷ neither ∷ []) ≡ three
unfolding computing
three-laid = refl

three-read : results_of three ≡ got seven ∷ failed ∷ neither ∷ []
unfolding computing
three-read = refl

three-accepted : results_verdict three ≡ fine
unfolding computing
three-accepted = refl

no-status-three : fields_verdict (set three 10 3) ≡ bad (NotAllowed 10)
unfolding computing
no-status-three = refl

value-past-end : fields_verdict (set three 7 6) ≡ bad (OutOfFile 4)
unfolding computing
value-past-end = refl

spare-byte : fields_verdict (three ++ 0 ∷ []) ≡ bad (OutOfFile 12)
unfolding computing
spare-byte = refl

-- ---- a plain read shows 2 for every status, and does not fail
plain-got : sorted_file (plan_file (plain ∷ [])) (layout (got seven ∷ [])) ≡ 1 ∷ 0 ∷ 1 ∷ 2 ∷ 0 ∷ 0 ∷ []
unfolding computing
plain-got = refl

plain-in-error : sorted_file (plan_file (plain ∷ [])) (layout (failed ∷ [])) ≡ 1 ∷ 0 ∷ 1 ∷ 2 ∷ 0 ∷ 0 ∷ []
unfolding computing
plain-in-error = refl

plain-neither : sorted_file (plan_file (plain ∷ [])) (layout (neither ∷ [])) ≡ 1 ∷ 0 ∷ 1 ∷ 2 ∷ 0 ∷ 0 ∷ []
unfolding computing
plain-neither = refl

-- ---- members cut: their length fields stand at 17 and 28
motor-cut : sorted_file (plan_file (motor ∷ [])) (layout (got running ∷ [])) ≡ 1 ∷ 0 ∷ 2 ∷ 0 ∷ 0 ∷ 0 ∷ 0 ∷ 17 ∷ 0 ∷ 0 ∷ 0 ∷ 0 ∷ 28 ∷ 0 ∷ 0 ∷ []
unfolding computing
motor-cut = refl

-- one is not there: it is read again, and the read failed
motor-halted : sorted_file (plan_file (motor ∷ [])) (layout (got halted ∷ [])) ≡ 1 ∷ 0 ∷ 2 ∷ 0 ∷ 0 ∷ 0 ∷ 0 ∷ 17 ∷ 1 ∷ 0 ∷ 1 ∷ 0 ∷ 0 ∷ []
unfolding computing
motor-halted = refl

-- ---- a read in error shows 1 for all its members and is added
motor-in-error : sorted_file (plan_file (motor ∷ [])) (layout (failed ∷ [])) ≡ 1 ∷ 0 ∷ 2 ∷ 1 ∷ 1 ∷ 0 ∷ 1 ∷ 0 ∷ 0 ∷ []
unfolding computing
motor-in-error = refl

mixed-in-error : sorted_file (plan_file (mixed ∷ [])) (layout (failed ∷ [])) ≡ 1 ∷ 0 ∷ 2 ∷ 1 ∷ 1 ∷ 0 ∷ 1 ∷ 0 ∷ 0 ∷ []
unfolding computing
mixed-in-error = refl

-- ---- status 2: a member with byte 0 shows 2, one with a path 1
mixed-neither : sorted_file (plan_file (mixed ∷ [])) (layout (neither ∷ [])) ≡ 1 ∷ 0 ∷ 2 ∷ 2 ∷ 1 ∷ 0 ∷ 1 ∷ 0 ∷ 0 ∷ []
unfolding computing
mixed-neither = refl

-- status 0: the member with a path is the array's second item, with its length field at 17
mixed-got : sorted_file (plan_file (mixed ∷ [])) (layout (got (array (item seven (item seven no_item))) ∷ [])) ≡ 1 ∷ 0 ∷ 2 ∷ 2 ∷ 0 ∷ 0 ∷ 0 ∷ 0 ∷ 17 ∷ 0 ∷ 0 ∷ []
unfolding computing
mixed-got = refl

-- ---- two reads of one name
-- both failed by a cut: the first is added, the second is not
twice_cut : sorted_file (plan_file (motor ∷ motor ∷ [])) (layout (got seven ∷ got seven ∷ [])) ≡ 1 ∷ 0 ∷ 4 ∷ 1 ∷ 1 ∷ 1 ∷ 1 ∷ 0 ∷ 1 ∷ 0 ∷ 0 ∷ []
unfolding computing
twice_cut = refl

-- the second in error: it is added again
cut-then-error : sorted_file (plan_file (motor ∷ motor ∷ [])) (layout (got seven ∷ failed ∷ [])) ≡ 1 ∷ 0 ∷ 4 ∷ 1 ∷ 1 ∷ 1 ∷ 1 ∷ 0 ∷ 2 ∷ 0 ∷ 0 ∷ 0 ∷ 1 ∷ []
unfolding computing
cut-then-error = refl

-- the first in error, the second failed by a cut: its name stands there
error-then-cut : sorted_file (plan_file (motor ∷ motor ∷ [])) (layout (failed ∷ got seven ∷ [])) ≡ 1 ∷ 0 ∷ 4 ∷ 1 ∷ 1 ∷ 1 ∷ 1 ∷ 0 ∷ 1 ∷ 0 ∷ 0 ∷ []
unfolding computing
error-then-cut = refl

-- ---- refusal 11: the smaller count
counts-differ : sort_verdict (plan_file (plain ∷ motor ∷ [])) three ≡ bad (CountsDiffer 2)
unfolding computing
counts-differ = refl

counts-agree : sort_verdict (plan_file (plain ∷ motor ∷ mixed ∷ [])) three ≡ fine
unfolding computing
counts-agree = refl
