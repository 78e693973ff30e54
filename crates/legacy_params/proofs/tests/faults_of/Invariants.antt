use Rattle.std.proofs.Common.{◌≡◌, drop}
use Rattle.legacy_params.specs.Faults.{least, faults_of}
use Rattle.legacy_params.proofs.tests.faults_of.Given as goal

abbrev pub invariant-loop-test : goal.invariant-loop-test
invariant-loop-test l = least l.first (faults_of l.for_keys (drop l.test-index l.tests)) ≡ faults_of l.for_keys l.tests
