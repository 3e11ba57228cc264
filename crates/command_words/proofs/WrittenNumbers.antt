-- The numbers of workers, written out.
use Rattle.std.proofs.Common.{◌≡◌, codes, refl}
use Rattle.std.specs.Prelude.{decimal}
use Rattle.std.specs.Fmt.{digits}

pub written_0 : decimal 0 ≡ codes "0"
unfolding digits
written_0 = refl

pub written_1 : decimal 1 ≡ codes "1"
unfolding digits
written_1 = refl

pub written_2 : decimal 2 ≡ codes "2"
unfolding digits
written_2 = refl

pub written_3 : decimal 3 ≡ codes "3"
unfolding digits
written_3 = refl

pub written_4 : decimal 4 ≡ codes "4"
unfolding digits
written_4 = refl

pub written_5 : decimal 5 ≡ codes "5"
unfolding digits
written_5 = refl

pub written_6 : decimal 6 ≡ codes "6"
unfolding digits
written_6 = refl

pub written_7 : decimal 7 ≡ codes "7"
unfolding digits
written_7 = refl

pub written_8 : decimal 8 ≡ codes "8"
unfolding digits
written_8 = refl

pub written_9 : decimal 9 ≡ codes "9"
unfolding digits
written_9 = refl

pub written_10 : decimal 10 ≡ codes "10"
unfolding digits
written_10 = refl

pub written_11 : decimal 11 ≡ codes "11"
unfolding digits
written_11 = refl

pub written_12 : decimal 12 ≡ codes "12"
unfolding digits
written_12 = refl

pub written_13 : decimal 13 ≡ codes "13"
unfolding digits
written_13 = refl

pub written_14 : decimal 14 ≡ codes "14"
unfolding digits
written_14 = refl

pub written_15 : decimal 15 ≡ codes "15"
unfolding digits
written_15 = refl

pub written_16 : decimal 16 ≡ codes "16"
unfolding digits
written_16 = refl
