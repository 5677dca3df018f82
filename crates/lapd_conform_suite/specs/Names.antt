-- Names of cases: a state, a class and two digits, as in 7-V-01.
use Rattle.std.specs.Prelude.{ℕ, Bool, ◌+◌, ◌*◌, ◌-◌, ◌==◌, ◌&&◌, List, length, slice_index, if◌then◌else◌, Option, Some, None, option_map, Result}
use Rattle.lapd_cli_script.specs.Line.{is_digit}
use Rattle.lapd_conform_suite.specs.declared.fault.Wanted.TheVariants as wanted
use Rattle.lapd_conform_suite.specs.declared.name.Class.{Class}
use Rattle.lapd_conform_suite.specs.declared.name.Class.TheVariants.{Inopportune, Invalid, Timer, Valid}
use Rattle.lapd_conform_suite.specs.declared.name.Group.{Group}
use Rattle.lapd_conform_suite.specs.declared.name.Group.TheVariants.{AssignAwaitingTei, AwaitingEstablishment, AwaitingRelease, EstablishAwaitingTei, Established, NetworkTei, TeiAssigned, TeiUnassigned, TimerRecovery, UserTei}
use Rattle.lapd_conform_suite.specs.declared.name.Name.{Name}
use Rattle.lapd_conform_suite.specs.Reading.{Wrong, or_wrong}

-- the states 1 to 8, and TEI management of the network side (n) and of a terminal (u)
abbrev pub group_at : ℕ → Option Group
group_at octet = if octet == 49 then Some TeiUnassigned else (
    if octet == 50 then Some AssignAwaitingTei else (
    if octet == 51 then Some EstablishAwaitingTei else (
    if octet == 52 then Some TeiAssigned else (
    if octet == 53 then Some AwaitingEstablishment else (
    if octet == 54 then Some AwaitingRelease else (
    if octet == 55 then Some Established else (
    if octet == 56 then Some TimerRecovery else (
    if octet == 110 then Some NetworkTei else (
    if octet == 117 then Some UserTei else None)))))))))

-- V, O, I and T
abbrev pub class_at : ℕ → Option Class
class_at octet = if octet == 86 then Some Valid else (
    if octet == 79 then Some Inopportune else (
    if octet == 73 then Some Invalid else (
    if octet == 84 then Some Timer else None)))

abbrev pub digits_at : ℕ → ℕ → Option ℕ
digits_at tens units = if is_digit tens && is_digit units
    then Some ((tens - 48) * 10 + (units - 48)) else None

abbrev pub named : Group → Class → ℕ → Name
named g c n = record { group = g; class = c; number = n }

abbrev pub name_of_parts : Option Group → Option Class → Option ℕ → Option Name
name_of_parts None class number = None
name_of_parts (Some g) None number = None
name_of_parts (Some g) (Some c) number = option_map (named g c) number

abbrev pub has_dashes : List ℕ → Bool
has_dashes word =
    length word == 6 && slice_index word 1 == 45 && slice_index word 3 == 45

abbrev pub name_in : List ℕ → Option Name
name_in word = if has_dashes word
    then name_of_parts (group_at (slice_index word 0)) (class_at (slice_index word 2))
    (digits_at (slice_index word 4) (slice_index word 5)) else None

abbrev pub name_at : List ℕ → Result Name Wrong
name_at word = or_wrong word wanted.Name (name_in word)

-- ---- The place of a state and class among all of them.

abbrev pub class_place : Class → ℕ
class_place Valid = 0
class_place Inopportune = 1
class_place Invalid = 2
class_place Timer = 3

abbrev pub group_place : Group → ℕ
group_place TeiUnassigned = 0
group_place AssignAwaitingTei = 4
group_place EstablishAwaitingTei = 8
group_place TeiAssigned = 12
group_place AwaitingEstablishment = 16
group_place AwaitingRelease = 20
group_place Established = 24
group_place TimerRecovery = 28
group_place NetworkTei = 32
group_place UserTei = 36

abbrev pub slot_of : Name → ℕ
slot_of name = group_place name.group + class_place name.class
