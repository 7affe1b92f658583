mod TruePackets
