-- A column looked up in a band: the first that halving finds is what is least, as far as `width`.
use mathlib.Core.Path.{◌≡◌}
use mathlib.Core.List.{List}
use Prim.Native.Nat.{ℕ, suc, ◌-◌, ◌≤◌, ◌<◌}
use native.Mathlib.Omega.{arith}
use lib.IntN.{ℤ}
use borrow.Author.Tests.{le-leb, lt-leb}
use Rattle.oracle.specs.Band.{FirstIn, band-column}
use Rattle.bands.specs.Entries.{row_at}
use Rattle.readoff.specs.Clauses.{Column}

pub column-inside : {table : List ℤ} {off start end width c : ℕ} {t t' : ℤ} → 0 < width → t' ≡ t → FirstIn (row_at table off) start end t' c → c < end
    → end ≤ width → Column table off start end width t c
column-inside {table} {off} {start} {end} {width} {c} {t} some e G h k =
    let F : FirstIn (row_at table off) start end t c = rw e at G in
    let last : suc (width - 1) ≡ width = omega arith in
    record {
      most = omega arith;
      is = λ asked f D q. rw (lt-leb end c h, last) at (band-column asked (width - 1) (row_at table off) start end f D t q c F);
    }

pub column-none : {table : List ℤ} {off start end width c : ℕ} {t t' : ℤ} → 0 < width → t' ≡ t → FirstIn (row_at table off) start end t' c → end ≤ c
    → Column table off start end width t width
column-none {table} {off} {start} {end} {width} {c} {t} some e G h =
    let F : FirstIn (row_at table off) start end t c = rw e at G in
    let last : suc (width - 1) ≡ width = omega arith in
    record {
      most = omega arith;
      is = λ asked f D q. rw (le-leb end c h, last) at (band-column asked (width - 1) (row_at table off) start end f D t q c F);
    }
