-- `hashing::keccak::round_constants`: one register and one constant for each round; `ri` is the place after round i's.
use mathlib.Core.Path.{refl}
use lib.Dec.{lit<}
use Rattle.hashing.specs.Lists.{tab}
use Rattle.hashing.proofs.keccak.Registers.{round_constant_lem}
use Rattle.hashing.proofs.keccak.round_constants.Goals as goal

pub returns : goal.returns
unfolding tab
returns r23 =
    round_constant_lem 0 (lit< tt) r23.register.ensures r23.constant.ensures
    (round_constant_lem 1 (lit< tt) r23.register-2.ensures r23.constant-2.ensures
    (round_constant_lem 2 (lit< tt) r23.register-3.ensures r23.constant-3.ensures
    (round_constant_lem 3 (lit< tt) r23.register-4.ensures r23.constant-4.ensures
    (round_constant_lem 4 (lit< tt) r23.register-5.ensures r23.constant-5.ensures
    (round_constant_lem 5 (lit< tt) r23.register-6.ensures r23.constant-6.ensures
    (round_constant_lem 6 (lit< tt) r23.register-7.ensures r23.constant-7.ensures
    (round_constant_lem 7 (lit< tt) r23.register-8.ensures r23.constant-8.ensures
    (round_constant_lem 8 (lit< tt) r23.register-9.ensures r23.constant-9.ensures
    (round_constant_lem 9 (lit< tt) r23.register-10.ensures r23.constant-10.ensures
    (round_constant_lem 10 (lit< tt) r23.register-11.ensures r23.constant-11.ensures
    (round_constant_lem 11 (lit< tt) r23.register-12.ensures r23.constant-12.ensures
    (round_constant_lem 12 (lit< tt) r23.register-13.ensures r23.constant-13.ensures
    (round_constant_lem 13 (lit< tt) r23.register-14.ensures r23.constant-14.ensures
    (round_constant_lem 14 (lit< tt) r23.register-15.ensures r23.constant-15.ensures
    (round_constant_lem 15 (lit< tt) r23.register-16.ensures r23.constant-16.ensures
    (round_constant_lem 16 (lit< tt) r23.register-17.ensures r23.constant-17.ensures
    (round_constant_lem 17 (lit< tt) r23.register-18.ensures r23.constant-18.ensures
    (round_constant_lem 18 (lit< tt) r23.register-19.ensures r23.constant-19.ensures
    (round_constant_lem 19 (lit< tt) r23.register-20.ensures r23.constant-20.ensures
    (round_constant_lem 20 (lit< tt) r23.register-21.ensures r23.constant-21.ensures
    (round_constant_lem 21 (lit< tt) r23.register-22.ensures r23.constant-22.ensures
    (round_constant_lem 22 (lit< tt) r23.register-23.ensures r23.constant-23.ensures
    (round_constant_lem 23 (lit< tt) r23.register-24.ensures r23.constant-24.ensures
    refl)))))))))))))))))))))))
