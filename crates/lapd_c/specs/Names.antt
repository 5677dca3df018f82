-- The names of codes and kinds, as c/lapd.h spells them. No other number has a name.
use Rattle.std.specs.Prelude.{ℕ, ◌==◌, if◌then◌else◌, List, codes}

abbrev pub code_name : ℕ → List ℕ
code_name code =
    if code == 0 then codes "LAPD_DONE" else (
    if code == 1 then codes "LAPD_NO_SIDE" else (
    if code == 2 then codes "LAPD_PENDING" else (
    if code == 3 then codes "LAPD_OUT_OF_RANGE" else (
    if code == 4 then codes "LAPD_CHECK_RUNS" else (
    if code == 5 then codes "LAPD_NOT_COUNTING" else (
    if code == 11 then codes "LAPD_NO_LINK" else (
    if code == 13 then codes "LAPD_NO_MEMORY" else (
    if code == 21 then codes "LAPD_NOT_ESTABLISHED" else (
    if code == 22 then codes "LAPD_QUEUE_FULL" else (
    if code == 23 then codes "LAPD_TOO_LONG" else (
    if code == 24 then codes "LAPD_RELEASING" else (
    if code == 25 then codes "LAPD_LAYER_3_ESTABLISHING" else codes ""))))))))))))

abbrev pub kind_name : ℕ → List ℕ
kind_name kind =
    if kind == 0 then codes "LAPD_NOTHING" else (
    if kind == 1 then codes "LAPD_DATA_IND" else (
    if kind == 2 then codes "LAPD_UNIT_DATA_IND" else (
    if kind == 3 then codes "LAPD_ESTABLISH_IND" else (
    if kind == 4 then codes "LAPD_ESTABLISH_CONF" else (
    if kind == 5 then codes "LAPD_RELEASE_IND" else (
    if kind == 6 then codes "LAPD_RELEASE_CONF" else (
    if kind == 7 then codes "LAPD_ACKNOWLEDGED" else (
    if kind == 8 then codes "LAPD_DROPPED" else (
    if kind == 9 then codes "LAPD_MDL_ERROR" else (
    if kind == 16 then codes "LAPD_TEI_GOT" else (
    if kind == 17 then codes "LAPD_TEI_GONE" else (
    if kind == 18 then codes "LAPD_TEI_FAILED" else (
    if kind == 19 then codes "LAPD_TEI_GIVEN" else (
    if kind == 20 then codes "LAPD_TEI_FREE" else (
    if kind == 21 then codes "LAPD_TEI_IN_USE" else (
    if kind == 22 then codes "LAPD_TEI_DOUBLED" else (
    if kind == 32 then codes "LAPD_FRAME" else codes "")))))))))))))))))
