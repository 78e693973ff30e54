-- What the prover needs beside the code.
mod Ids
